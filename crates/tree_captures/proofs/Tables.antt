-- What a table tells of names, as names are taken out of it, put in, and put back.
use Rattle.std.proofs.Common.{◌≡◌, ℕ, Bool, true, false, not, cond, ◌||◌, ◌&&◌, ◌==◌, List, [], ◌∷◌, ◌++◌, ◌-◌, ◌≤◌, ◌<◌, length, take, drop, get_or, bytes_eq, Option, Some, None, is_some, HashMap, refl, sym, ap, ap₂, ◌∙◌, arith}
use Rattle.std.proofs.lemmas.Bool.{false≢true}
use Rattle.std.proofs.lemmas.List.{take_all}
use Rattle.std.proofs.lemmas.List.Folds.{list_any-append}
use Rattle.std.proofs.lemmas.Map.Text.{hash_map_updates_str}
use Rattle.std.proofs.lemmas.Slice.Eq.{bytes_eq-Decides}
use Rattle.std.specs.Borrow.{Bor}
use Rattle.std.specs.HashMap.{get_by, UpdatesBy}
use Rattle.std.specs.List.{list_any}
use Rattle.std.specs.Map.{lookup}
use Rattle.std.specs.Prelude.{if◌then◌else◌}
use mathlib.Core.Path.{fun_ext}
use Rattle.swc_ast.specs.Tree.{Text, Name, same_name}
use Rattle.swc_ast.specs.Scope.{has_name}
use Rattle.swc_ast.specs.Resolved.{declares_text}
use Rattle.swc_ast.specs.declared.names.SyntaxContext.{SyntaxContext}
use Rattle.static_proofs.proofs.Names.{same_name_swap}
use Rattle.swc_resolved.specs.Names.{name, names}
use Rattle.swc_resolved.specs.declared.names.Name as key
use Rattle.swc_resolved.proofs.Once.{nobody}
use Rattle.tree_captures.specs.Captured.{Scopes, no_scope, with_scope}
use Rattle.tree_captures.specs.Views.{contexts, contexts_of, has_context, lacks, captures, known_of, binds, restored}
use Rattle.tree_captures.specs.declared.table.Known.{Known}
use Rattle.tree_captures.specs.declared.table.Outer.{Outer}
use Rattle.tree_captures.specs.declared.table.Table.{Table}

-- a text gets one more context

twice : {A : Type 0} (b : Bool) (v w z : A) → cond b v (cond b w z) ≡ cond b v z
twice true v w z = refl
twice false v w z = refl

pub after : {S : Type 0} (m mid n : HashMap (Bor (List ℕ)) Known S) (bs t : Text) (v : Known) (w : Option Known) → UpdatesBy (λ x y. bytes_eq x.now y.now) (λ k. bytes_eq bs k.now) m mid w → UpdatesBy (λ x y. bytes_eq x.now y.now) (λ k. bytes_eq bs k.now) mid n (Some v) → get_by (λ k. bytes_eq t k.now) n ≡ cond (bytes_eq bs t) (Some v) (get_by (λ k. bytes_eq t k.now) m)
after m mid n bs t v w first put = hash_map_updates_str bs mid n (Some v) put t ∙ ap (λ o. cond (bytes_eq bs t) (Some v) o) (hash_map_updates_str bs m mid w first t) ∙ twice (bytes_eq bs t) (Some v) w (get_by (λ k. bytes_eq t k.now) m)

some_of : {A : Type 0} (b : Bool) (v : A) (o : Option A) → is_some (cond b (Some v) o) ≡ (b || is_some o)
some_of true v o = refl
some_of false v o = refl

pub text_added : {A : Type 0} (b : Bool) (v : A) (o n : Option A) → n ≡ cond b (Some v) o → is_some n ≡ (b || is_some o)
text_added b v o n is = ap is_some is ∙ some_of b v o

or_nothing : (a : Bool) → a ≡ (a || false)
or_nothing true = refl
or_nothing false = refl

context_by : (b : Bool) (c : ℕ) (a : SyntaxContext) (v : Known) (o p : Option Known) → contexts v ≡ contexts_of p ++ (a ∷ []) → (b ≡ true → p ≡ o) → has_context c (contexts_of (cond b (Some v) o)) ≡ (has_context c (contexts_of o) || (b && (a.0 == c)))
context_by true c a v o p made here = ap (has_context c) made ∙ list_any-append (λ k. k.0 == c) (contexts_of p) (a ∷ []) ∙ ap₂ (λ x y. x || y) (ap (λ q. has_context c (contexts_of q)) (here refl)) (sym (or_nothing (a.0 == c)))
context_by false c a v o p made here = or_nothing (has_context c (contexts_of o))

pub context_added : {S : Type 0} (m : HashMap (Bor (List ℕ)) Known S) (k t : Text) (c : ℕ) (a : SyntaxContext) (v : Known) (n : Option Known) → contexts v ≡ contexts_of (get_by (λ j. bytes_eq k j.now) m) ++ (a ∷ []) → n ≡ cond (bytes_eq k t) (Some v) (get_by (λ j. bytes_eq t j.now) m) → has_context c (contexts_of n) ≡ (has_context c (contexts_of (get_by (λ j. bytes_eq t j.now) m)) || (bytes_eq k t && (a.0 == c)))
context_added m k t c a v n made is = ap (λ o. has_context c (contexts_of o)) is ∙ context_by (bytes_eq k t) c a v (get_by (λ j. bytes_eq t j.now) m) (get_by (λ j. bytes_eq k j.now) m) made (λ h. ap (λ s. get_by (λ j. bytes_eq s j.now) m) ((bytes_eq-Decides k t).0 h))

-- the first of the names that are left is put in

rest_is : (x : key.Name) (xs : List key.Name) → take (length (x ∷ xs) - 1) (drop 1 (x ∷ xs)) ≡ xs
rest_is x xs = take_all (length (x ∷ xs) - 1) xs (omega arith)

moved : (a b c : Bool) → ((b || a) || c) ≡ (a || (b || c))
moved true true c = refl
moved true false c = refl
moved false true c = refl
moved false false c = refl

pub text_step : (left : List key.Name) (old new g : Bool) (t : Text) → 1 ≤ length left → new ≡ (bytes_eq (name (get_or left 0 nobody)).text t || old) → (old || declares_text (names left) t) ≡ g → (new || declares_text (names (take (length left - 1) (drop 1 left))) t) ≡ g
text_step [] old new g t some put h = absurd (omega (arith, some))
text_step (x ∷ xs) old new g t some put h = ap₂ (λ b rs. b || declares_text (names rs) t) put (rest_is x xs) ∙ moved old (bytes_eq (name x).text t) (declares_text (names xs) t) ∙ h

joined : (a b c : Bool) → ((a || b) || c) ≡ (a || (b || c))
joined true b c = refl
joined false b c = refl

pub name_step : (left : List key.Name) (old new g : Bool) (y : Name) → 1 ≤ length left → new ≡ (old || same_name (name (get_or left 0 nobody)) y) → (old || has_name y (names left)) ≡ g → (new || has_name y (names (take (length left - 1) (drop 1 left)))) ≡ g
name_step [] old new g y some put h = absurd (omega (arith, some))
name_step (x ∷ xs) old new g y some put h = ap₂ (λ b rs. b || has_name y (names rs)) (put ∙ ap (λ b. old || b) (same_name_swap (name x) y)) (rest_is x xs) ∙ joined old (same_name y (name x)) (has_name y (names xs)) ∙ h

end : (b g : Bool) → (b || false) ≡ g → b ≡ g
end true g h = h
end false g h = h

pub texts_end : (b : Bool) (t : Text) (ns : List key.Name) (g : Bool) → length ns < 1 → (b || declares_text (names ns) t) ≡ g → b ≡ g
texts_end b t [] g short h = end b g h
texts_end b t (n ∷ ns) g short h = absurd (omega (arith, short))

pub names_end : (b : Bool) (y : Name) (ns : List key.Name) (g : Bool) → length ns < 1 → (b || has_name y (names ns)) ≡ g → b ≡ g
names_end b y [] g short h = end b g h
names_end b y (n ∷ ns) g short h = absurd (omega (arith, short))

-- texts are taken out

-- a text is among those that were taken out
abbrev pub has_outer : List Outer → Text → Bool
has_outer os t = list_any (λ o. bytes_eq o.text.now t) os

-- of the names of a list, the first and the rest
first_rest : (xs : List key.Name) (t : Text) → 1 ≤ length xs → declares_text (names xs) t ≡ (bytes_eq (name (get_or xs 0 nobody)).text t || declares_text (names (take (length xs - 1) (drop 1 xs))) t)
first_rest [] t some = absurd (omega (arith, some))
first_rest (x ∷ xs) t some = ap (λ ys. bytes_eq (name x).text t || declares_text (names ys) t) (sym (rest_is x xs))

has_next : (os ns : List Outer) (o : Outer) (t : Text) → ns ≡ os ++ (o ∷ []) → has_outer ns t ≡ (has_outer os t || bytes_eq o.text.now t)
has_next os ns o t made = ap (λ ps. has_outer ps t) made ∙ list_any-append (λ p. bytes_eq p.text.now t) os (o ∷ []) ∙ ap (λ b. has_outer os t || b) (sym (or_nothing (bytes_eq o.text.now t)))

pub had_next : (os ns : List Outer) (o : Outer) (left : List key.Name) (g : Bool) (t : Text) → ns ≡ os ++ (o ∷ []) → 1 ≤ length left → o.text.now ≡ (name (get_or left 0 nobody)).text → (has_outer os t || declares_text (names left) t) ≡ g → (has_outer ns t || declares_text (names (take (length left - 1) (drop 1 left))) t) ≡ g
had_next os ns o left g t made some is h = ap (λ b. b || declares_text (names (take (length left - 1) (drop 1 left))) t) (has_next os ns o t made ∙ ap (λ bs. has_outer os t || bytes_eq bs t) is) ∙ joined (has_outer os t) (bytes_eq (name (get_or left 0 nobody)).text t) (declares_text (names (take (length left - 1) (drop 1 left))) t) ∙ ap (λ b. has_outer os t || b) (sym (first_rest left t some)) ∙ h

taken_twice : {A : Type 0} (a b : Bool) (o : Option A) → cond b None (if a then None else o) ≡ (if (a || b) then None else o)
taken_twice true true o = refl
taken_twice true false o = refl
taken_twice false true o = refl
taken_twice false false o = refl

pub taken_next : {S : Type 0} (m n : HashMap (Bor (List ℕ)) Known S) (os ns : List Outer) (o : Outer) (old : Option Known) (t : Text) → ns ≡ os ++ (o ∷ []) → UpdatesBy (λ x y. bytes_eq x.now y.now) (λ k. bytes_eq o.text.now k.now) m n None → get_by (λ k. bytes_eq t k.now) m ≡ (if has_outer os t then None else old) → get_by (λ k. bytes_eq t k.now) n ≡ (if has_outer ns t then None else old)
taken_next m n os ns o old t made out h = hash_map_updates_str o.text.now m n None out t ∙ ap (cond (bytes_eq o.text.now t) None) h ∙ taken_twice (has_outer os t) (bytes_eq o.text.now t) old ∙ sym (ap (λ b. if b then None else old) (has_next os ns o t made))

-- what texts stood for is put back

pub restored_both : (os ps : List Outer) (e : Scopes) → restored (os ++ ps) e ≡ restored os (restored ps e)
restored_both [] ps e = refl
restored_both (o ∷ os) ps e = ap (λ f x. if bytes_eq o.text.now x.text then lacks o.known x else f x) (restored_both os ps e)

outer_one : (a b : Bool) (x y z : Bool) → (a ≡ false → b ≡ true → y ≡ x) → (if a then x else (if b then y else z)) ≡ (if (a || b) then x else z)
outer_one true b x y z h = refl
outer_one false true x y z h = h refl refl
outer_one false false x y z h = refl

pub outside_next : (old : Table) (cur : Text → Option Known) (os ns : List Outer) (o : Outer) (e : Scopes) (x : Name) → ns ≡ os ++ (o ∷ []) → o.known ≡ cur o.text.now → ((t : Text) → cur t ≡ (if has_outer os t then None else known_of old t)) → ((f : Scopes) → restored os f x ≡ (if has_outer os x.text then captures old x else f x)) → restored ns e x ≡ (if has_outer ns x.text then captures old x else e x)
outside_next old cur os ns o e x made is taken h = ap (λ ps. restored ps e x) made ∙ ap (λ f. f x) (restored_both os (o ∷ []) e) ∙ h (restored (o ∷ []) e) ∙ outer_one (has_outer os x.text) (bytes_eq o.text.now x.text) (captures old x) (lacks o.known x) (e x) here ∙ sym (ap (λ b. if b then captures old x else e x) (has_next os ns o x.text made))
  where
    here : has_outer os x.text ≡ false → bytes_eq o.text.now x.text ≡ true → lacks o.known x ≡ captures old x
    here free same = ap (λ k. lacks k x) (is ∙ ap cur ((bytes_eq-Decides o.text.now x.text).0 same) ∙ taken x.text ∙ ap (λ b. if b then None else known_of old x.text) free)

pub had_all : (os : List Outer) (left : List key.Name) (g : Bool) (t : Text) → length left < 1 → (has_outer os t || declares_text (names left) t) ≡ g → has_outer os t ≡ g
had_all os [] g t short h = or_nothing (has_outer os t) ∙ h
had_all os (x ∷ xs) g t short h = absurd (omega (arith, short))

pub taken_all : {A : Type 0} (b c : Bool) (n v w : A) → b ≡ c → n ≡ (if b then v else w) → n ≡ (if c then v else w)
taken_all b c n v w is h = h ∙ ap (λ d. if d then v else w) is

-- a scope is opened

or_false : (a b : Bool) → (a || b) ≡ false → (a ≡ false) × (b ≡ false)
or_false false false h = (refl, refl)
or_false false true h = absurd (false≢true (sym h))
or_false true b h = absurd (false≢true (sym h))

unnamed : (x : Name) (xs : List Name) → declares_text xs x.text ≡ false → has_name x xs ≡ false
unnamed x [] h = refl
unnamed x (y ∷ ys) h = let both = or_false (bytes_eq y.text x.text) (declares_text ys x.text) h in ap₂ (λ a b. a || b) (same_name_swap x y ∙ ap (λ a. a && (y.context == x.context)) both.0) (unnamed x ys both.1)

or_true : (b : Bool) → (b || true) ≡ true
or_true true = refl
or_true false = refl

opened_by : (d h : Bool) (x : Name) (o m n : Option Known) → m ≡ (if d then None else o) → is_some n ≡ (is_some m || d) → has_context x.context (contexts_of n) ≡ (has_context x.context (contexts_of m) || h) → (d ≡ false → h ≡ false) → lacks n x ≡ (if d then not h else lacks o x)
opened_by true h x o m None taken some bound f = absurd (false≢true (some ∙ or_true (is_some m)))
opened_by true h x o m (Some k) taken some bound f = ap not (bound ∙ ap (λ q. has_context x.context (contexts_of q) || h) taken)
opened_by false h x None m None taken some bound f = refl
opened_by false h x (Some j) m None taken some bound f = absurd (false≢true (some ∙ ap (λ q. is_some q || false) taken))
opened_by false h x None m (Some k) taken some bound f = absurd (false≢true (sym (some ∙ ap (λ q. is_some q || false) taken)))
opened_by false h x (Some j) m (Some k) taken some bound f = ap not (bound ∙ ap₂ (λ q b. has_context x.context (contexts_of q) || b) taken (f refl) ∙ sym (or_nothing (has_context x.context (contexts j))))

opened_at : (xs : List Name) (old mid new : Table) → ((t : Text) → known_of mid t ≡ (if declares_text xs t then None else known_of old t)) → ((t : Text) → is_some (known_of new t) ≡ (is_some (known_of mid t) || declares_text xs t)) → ((y : Name) → binds new y ≡ (binds mid y || has_name y xs)) → (x : Name) → captures new x ≡ with_scope xs (captures old) x
opened_at xs old mid new taken some bound x = opened_by (declares_text xs x.text) (has_name x xs) x (known_of old x.text) (known_of mid x.text) (known_of new x.text) (taken x.text) (some x.text) (bound x) (unnamed x xs)

pub opened : (xs : List Name) (old mid new : Table) → ((t : Text) → known_of mid t ≡ (if declares_text xs t then None else known_of old t)) → ((t : Text) → is_some (known_of new t) ≡ (is_some (known_of mid t) || declares_text xs t)) → ((y : Name) → binds new y ≡ (binds mid y || has_name y xs)) → captures new ≡ with_scope xs (captures old)
opened xs old mid new taken some bound = fun_ext (opened_at xs old mid new taken some bound)

-- the first one is opened in an empty table

none_known : (m : Table) → m.known.entries ≡ [] → (t : Text) → known_of m t ≡ None
none_known m is t = ap (lookup (λ (k : Bor (List ℕ)). bytes_eq t k.now)) is

taken_of_none : {A : Type 0} (d : Bool) (o : Option A) → o ≡ None → o ≡ (if d then None else o)
taken_of_none true o h = h
taken_of_none false o h = refl

pub opened_first : (xs : List Name) (old new : Table) → old.known.entries ≡ [] → ((t : Text) → is_some (known_of new t) ≡ (is_some (known_of old t) || declares_text xs t)) → ((y : Name) → binds new y ≡ (binds old y || has_name y xs)) → captures new ≡ with_scope xs no_scope
opened_first xs old new is some bound = opened xs old old new (λ t. taken_of_none (declares_text xs t) (known_of old t) (none_known old is t)) some bound ∙ ap (with_scope xs) (fun_ext (λ x. ap (λ k. lacks k x) (none_known old is x.text)))

-- what a scope leaves of the scopes round it

outside_by : (d a b c : Bool) → b ≡ (if d then a else c) → (if d then c else b) ≡ c
outside_by true a b c h = refl
outside_by false a b c h = h

pub outside : (xs : List Name) (os : List Outer) (old new : Table) → captures new ≡ with_scope xs (captures old) → ((e : Scopes) (x : Name) → restored os e x ≡ (if declares_text xs x.text then captures old x else e x)) → restored os (captures new) ≡ captures old
outside xs os old new inner h = fun_ext (λ x. h (captures new) x ∙ outside_by (declares_text xs x.text) (not (has_name x xs)) (captures new x) (captures old x) (ap (λ f. f x) inner))

-- a text is put back

lacks_by : (b : Bool) (w o : Option Known) (x : Name) → lacks (cond b w o) x ≡ (if b then lacks w x else lacks o x)
lacks_by true w o x = refl
lacks_by false w o x = refl

pub put_back : (m n : Table) (o : Outer) (w : Option Known) → o.known ≡ w → UpdatesBy (λ x y. bytes_eq x.now y.now) (λ k. bytes_eq o.text.now k.now) m.known n.known w → captures n ≡ restored (o ∷ []) (captures m)
put_back m n o w is put = fun_ext (λ x. ap (λ k. lacks k x) (hash_map_updates_str o.text.now m.known n.known w put x.text) ∙ lacks_by (bytes_eq o.text.now x.text) w (known_of m x.text) x ∙ sym (ap (λ k. if bytes_eq o.text.now x.text then lacks k x else captures m x) is))

pub one_back : (os ns : List Outer) (o : Outer) (e f g : Scopes) → os ≡ ns ++ (o ∷ []) → f ≡ restored (o ∷ []) e → restored os e ≡ g → restored ns f ≡ g
one_back os ns o e f g is put h = ap (restored ns) put ∙ sym (restored_both ns (o ∷ []) e) ∙ sym (ap (λ ps. restored ps e) is) ∙ h

pub all_back : (os : List Outer) (e g : Scopes) → os ≡ [] → restored os e ≡ g → e ≡ g
all_back os e g is h = sym (ap (λ ps. restored ps e) is) ∙ h
