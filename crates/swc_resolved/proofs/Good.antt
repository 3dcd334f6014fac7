-- One walk over a tree, by what a node is and its children.
use Rattle.std.proofs.Common.{◌≡◌, ℕ, ◌+◌, Bool, true, false, not, refl, sym, ap, ap₂, ◌∙◌}
use Rattle.std.proofs.lemmas.Bool.{false≢true, and_parts}
use Rattle.std.proofs.lemmas.Result.{IfOk-weaker}
use Rattle.std.specs.Prelude.{◌&&◌, if◌then◌else◌, Result, IfOk}
use Rattle.swc_ast.specs.Tree.{Name, Label, Tree, node, Forest, ε, ◌⊳◌, label_of, children_of}
use Rattle.swc_ast.specs.Core.{numbers_fit}
use Rattle.swc_ast.specs.Resolved.{Targets, below, jump_is_aimed, aimed, aimed_all, apart, apart_all, one_if, own_scopes, scopes, scopes_all}
use Rattle.swc_ast.specs.Valid.{good_names, good_shape, valid, valid_all}
use Rattle.swc_resolved.specs.Scopes.{own_apart, Binds, BindsNamed}
use Rattle.swc_resolved.specs.declared.scopes.Bound.TheVariants as bound
use Rattle.swc_resolved.specs.Here.{own_core, named_once, core_here, all_core_here}
use Rattle.swc_resolved.specs.Asked.{own_fit, own_good, own_named, good, good_all, Passes}
use Rattle.swc_resolved.proofs.Binding as binding

-- two conjunctions, part by part
exchanged : (a b c d : Bool) → ((a && b) && (c && d)) ≡ ((a && c) && (b && d))
exchanged true b true d = refl
exchanged true true false d = refl
exchanged true false false d = refl
exchanged false b c d = refl

-- a node and its children

-- all that is asked of a node by itself
abbrev pub own_all : Bool → Targets → Label → Forest → Bool
own_all v g l cs = own_good v g l cs && own_named v l cs

three : (a b c : Bool) → (a && (b && c)) ≡ ((a && b) && c)
three true b c = refl
three false b c = refl

turned : (a b c : Bool) → ((a && c) && b) ≡ ((a && b) && c)
turned true true true = refl
turned true true false = refl
turned true false true = refl
turned true false false = refl
turned false b c = refl

valid_split : (v : Bool) (l : Label) (ss : _) (cs : Forest) → (if v then valid (node l ss cs) && core_here (node l ss cs) else true) ≡ ((own_fit v l cs && own_named v l cs) && (if v then valid_all cs && all_core_here cs else true))
valid_split true l ss cs = exchanged (good_names l && good_shape l cs) (valid_all cs) (own_core l cs) (all_core_here cs) ∙ ap (λ b. b && (valid_all cs && all_core_here cs)) (three (good_names l && good_shape l cs) (numbers_fit l) (named_once l cs))
valid_split false l ss cs = refl

split : (v : Bool) (g : Targets) (t : Tree) → good v g t ≡ (own_all v g (label_of t) (children_of t) && good_all v (below (label_of t) g) (children_of t))
split v g (node l ss cs) =
    ap₂ ◌&&◌ (valid_split v l ss cs) (exchanged (jump_is_aimed l g) (aimed_all (below l g) cs) (own_apart l cs) (apart_all cs))
    ∙ exchanged (own_fit v l cs && own_named v l cs) (if v then valid_all cs && all_core_here cs else true) (jump_is_aimed l g && own_apart l cs) (aimed_all (below l g) cs && apart_all cs)
    ∙ ap (λ b. b && good_all v (below l g) cs) (turned (own_fit v l cs) (jump_is_aimed l g && own_apart l cs) (own_named v l cs))

pub split_as : (b : Bool) (v : Bool) (g : Targets) (t : Tree) (l : Label) (cs : Forest) → label_of t ≡ l → children_of t ≡ cs → own_all v g l cs ≡ b → good v g t ≡ (b && good_all v (below l g) cs)
split_as b v g t l cs labelled held own = split v g t ∙ cc (labelled, held, own)

pub own_fails : (v : Bool) (g : Targets) (t : Tree) (l : Label) (cs : Forest) (old new : Name → Bool) (all : Name → ℕ) → label_of t ≡ l → children_of t ≡ cs → own_good v g l cs ≡ false → Passes false (good v g t) old new all
own_fails v g t l cs old new all labelled held own = λ is. absurd (false≢true (sym (split_as false v g t l cs labelled held (ap (λ b. b && own_named v l cs) own)) ∙ is))

-- the names of its scope are good where all is
pub named_well : (v : Bool) (g : Targets) (t : Tree) (l : Label) (cs : Forest) → label_of t ≡ l → children_of t ≡ cs → good v g t ≡ true → own_named v l cs ≡ true
named_well v g t l cs labelled held is = (and_parts (own_good v g l cs) (own_named v l cs) (and_parts (own_all v g l cs) (good_all v (below l g) cs) (sym (split_as (own_all v g l cs) v g t l cs labelled held refl) ∙ is)).0).1

-- a node with a scope that binds a taken name, or declares one twice where the core is asked for
pub own_binds_again : (v : Bool) (g : Targets) (old mid new : Name → Bool) (t : Tree) (l : Label) (cs : Forest) → label_of t ≡ l → children_of t ≡ cs → Passes false (own_named v l cs) old mid (λ x. own_scopes x l cs) → Passes false (good v g t) old new (λ x. scopes x t)
own_binds_again v g old mid new t l cs labelled held again = λ is. binding.stops_here old mid new (λ x. own_scopes x l cs) (λ x. scopes_all x cs) (λ x. scopes x t) (λ x. binding.scopes_as x t l cs labelled held) (again (named_well v g t l cs labelled held is))

below_decides : (b : Bool) (v : Bool) (g : Targets) (t : Tree) (l : Label) (cs : Forest) (old mid new : Name → Bool) → label_of t ≡ l → children_of t ≡ cs → own_all v g l cs ≡ true → Binds true old mid (λ x. own_scopes x l cs) → Passes b (good_all v (below l g) cs) mid new (λ x. scopes_all x cs) → Passes b (good v g t) old new (λ x. scopes x t)
below_decides true v g t l cs old mid new labelled held own first rest =
    (split_as true v g t l cs labelled held own ∙ rest.0, binding.binds_then true old mid new (λ x. own_scopes x l cs) (λ x. scopes_all x cs) (λ x. scopes x t) (λ x. binding.scopes_as x t l cs labelled held) first rest.1)
below_decides false v g t l cs old mid new labelled held own first rest = λ is.
    binding.binds_then false old mid new (λ x. own_scopes x l cs) (λ x. scopes_all x cs) (λ x. scopes x t) (λ x. binding.scopes_as x t l cs labelled held) first (rest (sym (split_as true v g t l cs labelled held own) ∙ is))

pub last_below : {E : Type 0} (r : Result Bool E) (v : Bool) (g : Targets) (t : Tree) (l : Label) (cs : Forest) (old mid new : Name → Bool) → label_of t ≡ l → children_of t ≡ cs → own_good v g l cs ≡ true → Passes true (own_named v l cs) old mid (λ x. own_scopes x l cs) → IfOk r (λ b. Passes b (good_all v (below l g) cs) mid new (λ x. scopes_all x cs)) → IfOk r (λ b. Passes b (good v g t) old new (λ x. scopes x t))
last_below r v g t l cs old mid new labelled held own first rest = IfOk-weaker r (λ b. Passes b (good_all v (below l g) cs) mid new (λ x. scopes_all x cs)) (λ b. Passes b (good v g t) old new (λ x. scopes x t)) (λ b. below_decides b v g t l cs old mid new labelled held (ap₂ ◌&&◌ own first.0) first.1) rest

-- how a node's scopes were bound

named_if : (v : Bool) (l : Label) (cs : Forest) → named_once l cs ≡ true → own_named v l cs ≡ true
named_if true l cs once = once
named_if false l cs once = refl

-- none is declared twice
pub passes_once : (v : Bool) (l : Label) (cs : Forest) (old new : Name → Bool) (all : Name → ℕ) → BindsNamed bound.Once old new all (named_once l cs) → Passes true (own_named v l cs) old new all
passes_once v l cs old new all binds = (named_if v l cs binds.1, binds.0)

-- one is declared twice, which counts where the core is asked for
pub passes_again : (v : Bool) (l : Label) (cs : Forest) (old new : Name → Bool) (all : Name → ℕ) → BindsNamed bound.Again old new all (named_once l cs) → Passes (not v) (own_named v l cs) old new all
passes_again true l cs old new all binds = λ good. absurd (false≢true (sym binds.1 ∙ good))
passes_again false l cs old new all binds = (refl, binds.0)

-- trees in a row

valid_first : (v : Bool) (t : Tree) (ts : Forest) → (if v then valid_all (t ⊳ ts) && all_core_here (t ⊳ ts) else true) ≡ ((if v then valid t && core_here t else true) && (if v then valid_all ts && all_core_here ts else true))
valid_first true t ts = exchanged (valid t) (valid_all ts) (core_here t) (all_core_here ts)
valid_first false t ts = refl

first_of : (v : Bool) (g : Targets) (t : Tree) (ts : Forest) → good_all v g (t ⊳ ts) ≡ (good v g t && good_all v g ts)
first_of v g t ts =
    ap₂ ◌&&◌ (valid_first v t ts) (exchanged (aimed g t) (aimed_all g ts) (apart t) (apart_all ts))
    ∙ exchanged (if v then valid t && core_here t else true) (if v then valid_all ts && all_core_here ts else true) (aimed g t && apart t) (aimed_all g ts && apart_all ts)

first_as : (v : Bool) (g : Targets) (t : Tree) (ts us : Forest) → us ≡ t ⊳ ts → good_all v g us ≡ (good v g t && good_all v g ts)
first_as v g t ts us is = ap (good_all v g) is ∙ first_of v g t ts

pub first_fails : (v : Bool) (g : Targets) (old cur new end : Name → Bool) (all : Name → ℕ) (t : Tree) (ts us cs : Forest) → us ≡ t ⊳ ts → good_all v g us ≡ good_all v g cs → ((x : Name) → one_if (cur x) + scopes_all x us ≡ one_if (old x) + all x) → Passes false (good v g t) cur new (λ x. scopes x t) → Passes false (good_all v g cs) old end all
first_fails v g old cur new end all t ts us cs is same bound fails = λ h.
    binding.bind_stops old cur new all t ts us is (fails ((and_parts (good v g t) (good_all v g ts) (sym (first_as v g t ts us is) ∙ same ∙ h)).0)) bound

pub rest_decides : (v : Bool) (g : Targets) (cur new : Name → Bool) (t : Tree) (ts us cs : Forest) → us ≡ t ⊳ ts → Passes true (good v g t) cur new (λ x. scopes x t) → good_all v g us ≡ good_all v g cs → good_all v g ts ≡ good_all v g cs
rest_decides v g cur new t ts us cs is passes same = sym (first_as v g t ts us is ∙ ap (λ b. b && good_all v g ts) passes.0) ∙ same

pub rest_binds : (q : Bool) (cur new : Name → Bool) (g : Name → ℕ) (t : Tree) (ts us : Forest) → us ≡ t ⊳ ts → Passes true q cur new (λ x. scopes x t) → ((x : Name) → one_if (cur x) + scopes_all x us ≡ g x) → (x : Name) → one_if (new x) + scopes_all x ts ≡ g x
rest_binds q cur new g t ts us is passes h = binding.bind_next cur new g t ts us is passes.1 h

nothing_left : (v : Bool) (g : Targets) → good_all v g ε ≡ true
nothing_left true g = refl
nothing_left false g = refl

pub ends : (v : Bool) (g : Targets) (old new : Name → Bool) (all : Name → ℕ) (us cs : Forest) → us ≡ ε → good_all v g us ≡ good_all v g cs → ((x : Name) → one_if (new x) + scopes_all x us ≡ one_if (old x) + all x) → Passes true (good_all v g cs) old new all
ends v g old new all us cs is same bound = (sym same ∙ ap (good_all v g) is ∙ nothing_left v g, binding.bind_ends new (λ x. one_if (old x) + all x) us is bound)
