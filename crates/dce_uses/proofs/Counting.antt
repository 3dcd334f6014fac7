-- What a node says, noted piece by piece.
use Rattle.std.proofs.Common.{◌≡◌, ◌+◌, ◌*◌, ◌<◌, ◌≤◌, Bool, true, false, ◌||◌, ◌&&◌, List, [], ◌++◌, refl, sym, ap, ap₂, ◌∙◌, arith}
use Rattle.std.specs.Prelude.{if◌then◌else◌}
use Rattle.std.proofs.lemmas.Bool.{and_parts}
use Rattle.swc_ast.specs.Tree.{Name, Label, Tree, node, Forest, ε, ◌⊳◌, label_of, children_of}
use Rattle.swc_ast.specs.Scope.{has_name, param_name, param_names}
use Rattle.swc_ast.specs.Resolved.{params_of}
use Rattle.tree_visit.proofs.Caps.{tree_size, forest_size, opened_smaller}
use Rattle.dce_rules.specs.Uses.{has_arguments, any_arguments, declared_by_node, declared_among}
use Rattle.dce_uses.specs.declared.place.Place.{Place}
use Rattle.dce_uses.specs.declared.tally.Fact.{Fact}
use Rattle.dce_uses.specs.declared.tally.Tally.{Tally}
use Rattle.dce_uses.specs.declared.table.Table.{Table}
use Rattle.dce_uses.specs.declared.listed.Part.TheVariants as part
use Rattle.dce_uses.specs.Noted.{is_hiding, by_arguments, own, unnamed, is_counted, function_name, below, noted, noted_among}
use Rattle.dce_uses.specs.Listed.{listed}
use Rattle.dce_uses.specs.Tables.{IsNumbered, Notes, Restores, IsBefore, fact_of, holds}
use Rattle.dce_uses.proofs.Adding.{or_false, and_false, and_or, next, said, nothing, none_named, Going, goes_on, ends}
use Rattle.dce_uses.proofs.Extending.{extends_more}

-- facts of some names by themselves
abbrev pub alone : (Fact → Bool) → List Name → Fact → Name → Bool
alone g xs f x = g f && has_name x xs

-- the name of a node

pub one_said : (u v : Table) (t : Tally) (g : Fact → Bool) (xs ys : List Name) → ((f : Fact) → holds t f ≡ g f) → xs ≡ ys → Notes u v (alone (holds t) xs) → Notes u v (alone g ys)
one_said u v t g xs ys same named h = said u v (alone (holds t) xs) (alone g ys) (λ f x. ap₂ (λ a zs. a && has_name x zs) (same f) named) h

pub none_said : (u : Table) (g : Fact → Bool) (xs : List Name) → [] ≡ xs → Notes u u (alone g xs)
none_said u g xs none = nothing u (alone g xs) (λ f x. none_named g f x xs (sym none))

-- `arguments`

pub listed_params : (ps : Forest) → listed part.Params ps ≡ param_names ps
listed_params ε = refl
listed_params (node l ss cs ⊳ ts) = ap (λ xs. param_name l ++ xs) (listed_params ts)

params_said : (f : Fact) (x : Name) (l : Label) (cs ps : Forest) → has_arguments l ≡ true → any_arguments cs ≡ true → ps ≡ params_of cs → alone is_hiding (listed part.Params ps) f x ≡ by_arguments f x l cs
params_said f x l cs ps is some of = cc (is, some, of, listed_params ps)

pub with_params : (u v : Table) (l : Label) (cs ps : Forest) → has_arguments l ≡ true → any_arguments cs ≡ true → ps ≡ params_of cs → Notes u v (alone is_hiding (listed part.Params ps)) → Notes u v (λ f x. by_arguments f x l cs)
with_params u v l cs ps is some of h = said u v (alone is_hiding (listed part.Params ps)) (λ f x. by_arguments f x l cs) (λ f x. params_said f x l cs ps is some of) h

-- names that are declared among trees, one node after another

abbrev pub declared_hidden : Forest → Fact → Name → Bool
declared_hidden ts f x = is_hiding f && declared_among x ts

declared_split : (f : Fact) (x : Name) (t : Tree) (ts us cs : Forest) (l : Label) (xs : List Name) → us ≡ t ⊳ ts → label_of t ≡ l → children_of t ≡ cs → xs ≡ declared_by_node l → declared_hidden us f x ≡ ((alone is_hiding xs f x || declared_hidden cs f x) || declared_hidden ts f x)
declared_split f x (node l ss cs) ts us ds k xs is labelled held names =
    ap (λ vs. declared_hidden vs f x) is ∙ and_or (is_hiding f) (has_name x (declared_by_node l) || declared_among x cs) (declared_among x ts)
    ∙ ap (λ b. b || declared_hidden ts f x) (and_or (is_hiding f) (has_name x (declared_by_node l)) (declared_among x cs))
    ∙ ap₂ (λ ys vs. (alone is_hiding ys f x || declared_hidden vs f x) || declared_hidden ts f x) (sym (names ∙ ap declared_by_node (sym labelled))) held

pub more_declared : (u v t w : Table) (n : Tree) (ts us cs all : Forest) (l : Label) (xs : List Name) → us ≡ n ⊳ ts → label_of n ≡ l → children_of n ≡ cs → xs ≡ declared_by_node l → Notes v t (alone is_hiding xs) → Notes t w (declared_hidden cs) → Going u v (declared_hidden all) (declared_hidden us) → Going u w (declared_hidden all) (declared_hidden ts)
more_declared u v t w n ts us cs all l xs is labelled held names here inside h =
    goes_on u v w (declared_hidden all) (λ f x. alone is_hiding xs f x || declared_hidden cs f x) (declared_hidden ts) (declared_hidden us)
    (λ f x. declared_split f x n ts us cs l xs is labelled held names) (next v t w (alone is_hiding xs) (declared_hidden cs) here inside) h

pub no_more_declared : (u v : Table) (us all : Forest) → us ≡ ε → Going u v (declared_hidden all) (declared_hidden us) → Notes u v (declared_hidden all)
no_more_declared u v us all is h =
    ends u v (declared_hidden all) (declared_hidden us) (λ f x. ap (λ vs. declared_hidden vs f x) is ∙ and_false (is_hiding f)) h

-- a node

pub opened_as : (f : Fact) (x : Name) (p : Place) (t : Tree) (l : Label) (cs : Forest) → label_of t ≡ l → children_of t ≡ cs → noted f x p (node l [] cs) ≡ noted f x p t
opened_as f x p (node k ss ds) l cs labelled held = sym (ap₂ (λ m us. noted f x p (node m [] us)) labelled held)

-- uses and writes of a function's own name
restored : (old new : Bool) (b : Bool) (before m : Bool) → (b ≡ true → before ≡ old) → new ≡ (if b then before else (old || m)) → new ≡ (old || (if b then false else m))
restored old new true before m known h = h ∙ known refl ∙ sym (or_false old)
restored old new false before m known h = h

-- a node by its parts
pub counted_so : (u s v r w : Table) (p q : Place) (l : Label) (cs : Forest) (xs : List Name) (before : Tally) → xs ≡ function_name l → q ≡ below p l → IsBefore u xs before → Notes u s (λ f x. own f x p l) → Notes s v (λ f x. noted_among f x q cs) → Notes v r (λ f x. unnamed f x p l cs) → Restores r w xs before → Notes u w (λ f x. noted f x p (node l [] cs))
counted_so u s v r w p q l cs xs before function inside known own_noted among_noted unnamed_noted back =
    record { names = extends_more u.names r.names w.names three.names back.names; numbered = λ k. back.numbered (three.numbered k); facts = by }
  where
    more : Fact → Name → Bool
    more f x = (own f x p l || noted_among f x q cs) || unnamed f x p l cs

    three : Notes u r more
    three = next u v r (λ f x. own f x p l || noted_among f x q cs) (λ f x. unnamed f x p l cs) (next u s v (λ f x. own f x p l) (λ f x. noted_among f x q cs) own_noted among_noted) unnamed_noted

    by : IsNumbered u → (f : Fact) (x : Name) → fact_of w f x ≡ (fact_of u f x || noted f x p (node l [] cs))
    by k f x =
        restored (fact_of u f x) (fact_of w f x) (is_counted f && has_name x xs) (holds before f) (more f x)
        (λ is. known f x ((and_parts (is_counted f) (has_name x xs) is).1))
        (back.facts (three.numbered k) f x ∙ ap (λ b. if is_counted f && has_name x xs then holds before f else b) (three.facts k f x))
        ∙ ap₂ (λ ys o. fact_of u f x || (if is_counted f && has_name x ys then false else ((own f x p l || noted_among f x o cs) || unnamed f x p l cs))) function inside

-- a whole node
pub counted_as : (u v : Table) (p : Place) (t : Tree) (l : Label) (cs : Forest) → label_of t ≡ l → children_of t ≡ cs → Notes u v (λ f x. noted f x p (node l [] cs)) → Notes u v (λ f x. noted f x p t)
counted_as u v p t l cs labelled held h = said u v (λ f x. noted f x p (node l [] cs)) (λ f x. noted f x p t) (λ f x. opened_as f x p t l cs labelled held) h

-- children, one after another

pub among_split : (f : Fact) (x : Name) (p : Place) (t : Tree) (ts us : Forest) → us ≡ t ⊳ ts → noted_among f x p us ≡ (noted f x p t || noted_among f x p ts)
among_split f x p t ts us is = ap (noted_among f x p) is

pub among_none : (f : Fact) (x : Name) (p : Place) (us : Forest) → us ≡ ε → noted_among f x p us ≡ false
among_none f x p us is = ap (noted_among f x p) is

pub children_fall : (t : Tree) (cs : Forest) → children_of t ≡ cs → forest_size cs * 3 + 2 < tree_size t * 3 + 1
children_fall t cs is = let smaller = opened_smaller t cs is in omega (arith, smaller)

pub child_falls : (t : Tree) (ts us cs : Forest) → us ≡ t ⊳ ts → forest_size us ≤ forest_size cs → tree_size t * 3 + 2 < forest_size cs * 3 + 1
child_falls t ts us cs is h = omega (arith, ap forest_size is, h)
