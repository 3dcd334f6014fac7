-- A module before and after, and that both do the same:
--     const x = f();  { const y = x; g(y); }        and        const x = f();  { const y = x; g(x); }
use Rattle.std.proofs.Common.{◌≡◌, Bool, true, false, ◌||◌, [], Some, None, refl, sym, subst, cond, codes, ◌∙◌, if◌then◌else◌}
use Rattle.std.proofs.lemmas.Bool.{false≢true, true≢false}
use Rattle.swc_ast.specs.declared.VarDeclKind.TheVariants.{Const}
use Rattle.swc_ast.specs.Tree.{Name, same_name, Label, Read, Call, ExprStmt, Block, VarDecl, Declarator, Module, Tree, node, Forest, ε, ◌⊳◌}
use Rattle.swc_ast.specs.Value.{Value}
use Rattle.swc_ast.specs.Scope.{Lexical, Function, found, declared, list_binds, module_binds}
use Rattle.swc_ast.specs.Meaning.{is_unresolved}
use Rattle.swc_ast.specs.Run.{Same}
use Rattle.meaning_proofs.specs.Roles.{holds_function}
use Rattle.link_proofs.specs.Links.{Links, Ground, empty_ground, nothing, a_name, a_value, no_settling, Proper, beside, OpensList, IsLexical, lexical, IsConstant, constant, Splits, Good, good, good_block, no_good, more_good, functions, Items, no_items, an_item, begins_good, begins_first, begins_linked, begins_group, GoodWhole, good_module, Puts, puts_read, puts_node, puts_end, puts_more}
use Rattle.meaning_proofs.proofs.Names.{same_name_eq}
use Rattle.link_proofs.proofs.Puts.{puts_same}

abbrev x : Name
x = record { text = codes "x"; context = 2 }

abbrev y : Name
y = record { text = codes "y"; context = 3 }

abbrev f : Name
f = record { text = codes "f"; context = 1 }

abbrev g : Name
g = record { text = codes "g"; context = 1 }

abbrev leaf : Label → Tree
leaf l = node l [] ε

abbrev one : Label → Tree → Tree
one l t = node l [] (t ⊳ ε)

abbrev call_f : Tree
call_f = one Call (leaf (Read f))

abbrev call_g : Name → Tree
call_g z = one ExprStmt (node Call [] (leaf (Read g) ⊳ leaf (Read z) ⊳ ε))

abbrev first : Tree
first = one (VarDecl Const) (one (Declarator Const x) call_f)

abbrev second : Tree
second = one (VarDecl Const) (one (Declarator Const y) (leaf (Read x)))

abbrev block : Name → Forest
block z = second ⊳ call_g z ⊳ ε

abbrev items : Name → Forest
items z = first ⊳ node Block [] (block z) ⊳ ε

abbrev before : Tree
before = node Module [] (items y)

abbrev after : Tree
after = node Module [] (items x)

-- y stands for x, but not where y is declared; reads of other names stay
abbrev links : Links
links = record { link = λ z. if same_name y z then Some x else None; known = λ z. None; fixed = λ z. same_name y z || same_name x z; constant = λ z. same_name y z || same_name x z; settles = λ z. nothing; still = λ z. false; marked = λ ss. true }

linked_is : (z u : Name) → links.link z ≡ Some u → (y ≡ z) × (x ≡ u)
linked_is z u e = go (same_name y z) refl e
  where
    some_same : {a b : Name} → Some a ≡ Some b → a ≡ b
    some_same e = cc

    go : (b : Bool) → same_name y z ≡ b → cond b (Some x) None ≡ Some u → (y ≡ z) × (x ≡ u)
    go true p q = (same_name_eq y z p, some_same q)
    go false p q = cc

no_name : (u : Name) → nothing ≡ a_name u → ⊥
no_name u e = cc

no_value : (v : Value) → nothing ≡ a_value v → ⊥
no_value v e = cc

proper : Proper links 1
proper = record {
  linked_fixed = λ z u e. subst (λ (z : Name). links.fixed z ≡ true) (linked_is z u e).0 refl;
  target_fixed = λ z u e. subst (λ (u : Name). links.fixed u ≡ true) (linked_is z u e).1 refl;
  target_ends = λ z u e. subst (λ (u : Name). links.link u ≡ None) (linked_is z u e).1 refl;
  target_unknown = λ z u e. refl;
  known_fixed = λ z u e. cc;
  known_bound = λ z u e. cc;
  target_settles = λ z u e. refl;
  settled_bound = λ z u e. absurd (no_name u e);
  settled_value = λ z v e. absurd (no_value v e);
  settled_target = λ z u e. absurd (no_name u e);
  settled_ends = λ z u e. absurd (no_name u e);
  settled_still = λ z e. absurd (e refl);
  constant_fixed = λ z e. e;
  linked_bound = λ z u e. subst (λ (z : Name). is_unresolved 1 z ≡ false) (linked_is z u e).0 refl;
  target_bound = λ z u e. subst (λ (u : Name). is_unresolved 1 u ≡ false) (linked_is z u e).1 refl;
}

abbrev waits_x : Name → Bool
waits_x z = same_name x z

abbrev waits_y : Name → Bool
waits_y z = same_name y z

abbrev none_waits : Name → Bool
none_waits z = false

abbrev top : Ground
top = beside (module_binds (items y)) empty_ground

abbrev inner : Ground
inner = beside (list_binds (block y)) top

is_x : (P : Name → Type 0) → P x → (z : Name) → waits_x z ≡ true → P z
is_x P h z e = subst P (same_name_eq x z e) h

is_y : (P : Name → Type 0) → P y → (z : Name) → waits_y z ≡ true → P z
is_y P h z e = subst P (same_name_eq y z e) h

read_good : (G : Ground) (z : Name) → Good links G (leaf (Read z))
read_good G z = good (Read z) refl tt (no_settling refl) no_good

no_function_found : (z : Name) (b : Bool) (t : Tree) → cond b (Some (Lexical false)) None ≡ Some (Function t) → ⊥
no_function_found z true t e = no_same (lexical_same e)
  where
    lexical_same : Some (Lexical false) ≡ Some (Function t) → Lexical false ≡ Function t
    lexical_same e = cc

    no_same : Lexical false ≡ Function t → ⊥
    no_same e = cc
no_function_found z false t e = cc

split : (B : Name → Bool) → Splits B B none_waits
split B = record { first = λ z e. e; second = λ z e. absurd (false≢true e); apart = λ z e f. false≢true f }

no_split : Splits none_waits none_waits none_waits
no_split = record { first = λ z e. e; second = λ z e. e; apart = λ z e f. false≢true f }

inner_items : Items links inner waits_y (block y)
inner_items =
    an_item waits_y none_waits (split waits_y) (begins_group (VarDecl Const) refl (an_item waits_y none_waits (split waits_y) (begins_linked Const y x refl refl refl) no_items))
    (an_item none_waits none_waits no_split (begins_good (good ExprStmt refl tt tt (more_good (good Call refl tt tt (more_good (read_good inner g) (more_good (read_good inner y) no_good))) no_good))) no_items)

or_right : (b : Bool) → (b || false) ≡ true → b ≡ true
or_right true e = refl
or_right false e = e

is_found_y : (z : Name) → list_binds (block y) z ≡ true → IsConstant (found z (declared (block y)))
is_found_y z b = is_y (λ z. IsConstant (found z (declared (block y)))) constant z (or_right (same_name y z) b)

is_found_x : (z : Name) → module_binds (items y) z ≡ true → IsConstant (found z (declared (items y)))
is_found_x z b = is_x (λ z. IsConstant (found z (declared (items y)))) constant z (or_right (same_name x z) b)

opens_block : OpensList links top waits_y (block y)
opens_block = record {
  opens = record { apart = λ z u l b d. absurd (true≢false (sym (subst (λ (z : Name). list_binds (block y) z ≡ true) (linked_is z u l).0 refl) ∙ d)); settled = λ z q. absurd (false≢true q); settled_target = λ z u q. absurd (false≢true q) };
  waiting = is_y (λ z. IsLexical (found z (declared (block y)))) (lexical false);
  waiting_fixed = is_y (λ z. links.fixed z ≡ true) refl;
  no_function = λ z u l. subst (λ (z : Name). holds_function (found z (declared (block y))) ≡ false) (linked_is z u l).0 refl;
  no_known = λ z u l. cc;
  constants = λ z f b. is_found_y z b;
}

top_items : Items links top waits_x (items y)
top_items =
    an_item waits_x none_waits (split waits_x) (begins_group (VarDecl Const) refl (an_item waits_x none_waits (split waits_x) (begins_first Const x refl refl refl (more_good (good Call refl tt tt (more_good (read_good top f) no_good)) no_good)) no_items))
    (an_item none_waits none_waits no_split (begins_good (good_block waits_y opens_block (functions (λ z t e. absurd (no_function_found z (same_name y z) t e))) inner_items)) no_items)

whole : GoodWhole links before
whole = good_module waits_x (record {
  waiting = is_x (λ z. IsLexical (found z (declared (items y)))) (lexical false);
  waiting_bound = is_x (λ z. module_binds (items y) z ≡ true) refl;
  waiting_fixed = is_x (λ z. links.fixed z ≡ true) refl;
  no_variable = λ z u l b. absurd (true≢false (sym b ∙ subst (λ (z : Name). module_binds (items y) z ≡ false) (linked_is z u l).0 refl));
  known_variable = λ z u l b. cc;
  constants = λ z f b. is_found_x z b;
}) (λ z e. absurd (false≢true e)) (functions (λ z t e. absurd (no_function_found z (same_name x z) t e))) top_items

puts : Puts links before after
puts =
    puts_node Module refl tt (puts_more (puts_node (VarDecl Const) refl tt (puts_more (puts_node (Declarator Const x) refl tt (puts_more (puts_node Call refl tt (puts_more (puts_node (Read f) refl refl puts_end) puts_end)) puts_end)) puts_end))
    (puts_more (puts_node Block refl tt (puts_more (puts_node (VarDecl Const) refl tt (puts_more (puts_node (Declarator Const y) refl tt (puts_more (puts_node (Read x) refl refl puts_end) puts_end)) puts_end))
    (puts_more (puts_node ExprStmt refl tt (puts_more (puts_node Call refl tt (puts_more (puts_node (Read g) refl refl puts_end) (puts_more (puts_read y x refl) puts_end))) puts_end)) puts_end))) puts_end))

pub same : (loads : Bool) → Same 1 loads before after
same loads = puts_same proper loads whole puts
