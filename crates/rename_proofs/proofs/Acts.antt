-- Each label takes children of related meanings to related meanings.
use Rattle.std.proofs.Common.{◌≡◌, ℕ, Bool, true, false, List, ◌∷◌, refl, sym, ap, ap₂, subst, ◌∙◌, ◌&&◌, if◌then◌else◌}
use Rattle.swc_ast.specs.declared.Span.{Span}
use Rattle.swc_ast.specs.declared.UnaryOp.{UnaryOp}
use Rattle.swc_ast.specs.declared.UnaryOp.TheVariants.{Minus, Plus, Bang, Tilde, TypeOf, Void}
use Rattle.swc_ast.specs.Tree.{Name, Label, NumLit, StrLit, BoolLit, NullLit, This, Read, Template, Array, Object, SpreadRecord, KeyValue, Shorthand, Method, PlainKey, ComputedKey, Fn, Arrow, Body, Unary, TypeOfName, Binary, Cond, Seq, Dot, Index, Call, New, CallEval, CallDot, CallIndex, Assign, AssignDot, AssignIndex, Update, UpdateDot, UpdateIndex, Block, Empty, Throw, ExprStmt, Return, If, While, DoWhile, For, Absent, Labeled, Break, Continue, Switch, CaseBody, Try, VarDecl, Declarator, FnDecl, ExportDecl, ExportDefaultExpr, Import, ExportNamed, ExportDefaultFn, node, Forest}
use Rattle.swc_ast.specs.Value.{Value, TypeOf as TypeOfEvent, and_then, Run, Context, Meaning}
use Rattle.swc_ast.specs.Scope.{case_statements, default_name}
use Rattle.swc_ast.specs.Operators.{unary_value}
use Rattle.swc_ast.specs.Meaning.{◌>>=◌, read, initialise, is_unresolved, is_host_name, ask, leaves, in_core, checked_type, is_type_name, key_name, first_tree, type_of_name, act, Caller}
use Rattle.rename_rules.specs.Renamed.{new_option, new_label}
use Rattle.rename_proofs.proofs.Relation.{Pairing, Each, Keeps, V, undefined, null, truth, num, text, items, entries, function, no_entry, C, broken, continued, thrown, Ran, M}
use Rattle.rename_proofs.proofs.Combine.{gives_sim, leaves_sim, jumps_sim, if_sim, in_core_sim, bind}
use Rattle.rename_proofs.proofs.Prims.{same_unary}
use Rattle.rename_proofs.proofs.Results.{unary_data}
use Rattle.rename_proofs.proofs.Members.{maybe_same}
use Rattle.rename_proofs.proofs.Stores.{same_unresolved, host_text, ask_same, read_sim, write_sim, initialise_sim}
use Rattle.rename_proofs.proofs.Parts.{K, get_sim, put_sim, get_at_sim, put_at_sim, read_this_sim, call_value_sim, make_value_sim, all_values_sim, in_turn_sim, run_all_sim, array_items_sim, template_sim, object_fields_sim, key_text_sim, one_field_sim, with_text, operate_sim, assign_sim, update_sim, choice_sim, bad_sim}
use Rattle.rename_proofs.proofs.Shapes.{shape0_sim, shape1_sim, shape2_sim, shape3_sim, shape4_sim, shape1+_sim, shape2+_sim, if_node_sim, return_sim}
use Rattle.rename_proofs.proofs.Loops.{turns_sim, do_turns_sim, at_label_sim}
use Rattle.rename_proofs.proofs.Statements.{SameList, SameHead, cases_sim, in_list_scope_sim, switch_sim, try_sim, declare_sim, for_loop_sim}

-- what a node and the renamed one need beside children that mean the same
abbrev pub Side : Pairing → Label → List Span → List Span → Forest → Forest → Type 0
Side P (Shorthand x) ss rs cs us = ⊥
Side P (Fn o) ss rs cs us = Keeps P (node (Fn o) ss cs) (node (Fn (new_option P.to o)) rs us)
Side P Arrow ss rs cs us = Keeps P (node Arrow ss cs) (node Arrow rs us)
Side P Method ss rs cs us = Keeps P (node Method ss cs) (node Method rs us)
Side P Block ss rs cs us = SameList P cs us
Side P For ss rs cs us = SameHead P (first_tree cs) (first_tree us)
Side P (Switch ds) ss rs cs us = SameList P (case_statements cs) (case_statements us)
Side P _ ss rs cs us = Unit {0}

-- the type of a name that is no host's
is_bound : (mark : ℕ) (x : Name) (c : Context) → is_unresolved mark x ≡ false → type_of_name mark x c ≡ (read mark x c >>= λ v. in_core (unary_value TypeOf v))
unfolding type_of_name
is_bound mark x c e = ap (λ (b : Bool). if b && is_host_name x.text then (ask (TypeOfEvent x.text) >>= checked_type) else (read mark x c >>= λ v. in_core (unary_value TypeOf v))) e

module _ {P : Pairing} where
  type_name_sim : {v w : Value} → V P v w → is_type_name v ≡ is_type_name w
  type_name_sim (items r) = refl
  type_name_sim _ = refl

  checked_sim : {v w : Value} → V P v w → Ran P (V P) (checked_type v) (checked_type w)
  checked_sim r = if_sim (type_name_sim r) (gives_sim r) (leaves_sim leaves)

  unary_sim : (op : UnaryOp) {m n : Meaning} → M P m n → {c d : Context} → C P c d → Ran P (V P) (λ s. and_then (m c s) (λ v. in_core (unary_value op v))) (λ s. and_then (n d s) (λ v. in_core (unary_value op v)))
  unary_sim op hm hc = bind (hm.at _ _ hc) (λ v w r. in_core_sim (maybe_same (same_unary op r) (unary_data op v)))

  type_of_name_sim : (x : Name) → M P (type_of_name P.mark x) (type_of_name P.mark (P.to x))
  unfolding type_of_name
  type_of_name_sim x = record { at = λ c d hc. go (is_unresolved P.mark x) refl hc }
    where
      bound : {c d : Context} → C P c d → Ran P (V P) (read P.mark x c >>= λ v. in_core (unary_value TypeOf v)) (read P.mark (P.to x) d >>= λ v. in_core (unary_value TypeOf v))
      bound hc = bind (read_sim x hc) (λ v w r. in_core_sim (maybe_same (same_unary TypeOf r) (unary_data TypeOf v)))

      go : (b : Bool) → is_unresolved P.mark x ≡ b → {c d : Context} → C P c d → Ran P (V P) (type_of_name P.mark x c) (type_of_name P.mark (P.to x) d)
      go true e hc =
          if_sim (ap₂ ◌&&◌ (sym (same_unresolved P x)) (ap is_host_name (host_text P x e)))
          (bind (ask_same (ap TypeOfEvent (host_text P x e))) (λ v w r. checked_sim r))
          (bound hc)
      go false e {c} {d} hc =
          subst (λ (m : Run Value). Ran P (V P) m (type_of_name P.mark (P.to x) d)) (sym (is_bound P.mark x c e))
          (subst (λ (m : Run Value). Ran P (V P) (read P.mark x c >>= λ v. in_core (unary_value TypeOf v)) m) (sym (is_bound P.mark (P.to x) d (same_unresolved P x ∙ e))) (bound hc))

  -- the name of a default export stays
  default_sim : {v w : Value} {c d : Context} → V P v w → C P c d → Ran P (V P) (initialise default_name v c) (initialise default_name w d)
  default_sim {v} {w} {c} {d} r hc = subst (λ (z : Name). Ran P (V P) (initialise default_name v c) (initialise z w d)) (P.is.hosts_stay default_name refl) (initialise_sim default_name r hc)

  module _ (n : ℕ) {call call' : Caller} (hk : K P call call') where
    pub act_sim : (l : Label) (ss rs : List Span) (cs us : Forest) → Side P l ss rs cs us → {ms ns : List Meaning} → Each (M P) ms ns → M P (act P.mark n call l ss cs ms) (act P.mark n call' (new_label P.to l) rs us ns)
    unfolding act
    act_sim (NumLit z) ss rs cs us q hs = shape0_sim (record { at = λ c d hc. gives_sim (num z) }) hs
    act_sim (StrLit t) ss rs cs us q hs = shape0_sim (record { at = λ c d hc. gives_sim (text t) }) hs
    act_sim (BoolLit b) ss rs cs us q hs = shape0_sim (record { at = λ c d hc. gives_sim (truth b) }) hs
    act_sim NullLit ss rs cs us q hs = shape0_sim (record { at = λ c d hc. gives_sim null }) hs
    act_sim This ss rs cs us q hs = shape0_sim (record { at = λ c d hc. read_this_sim hc.this }) hs
    act_sim (Read x) ss rs cs us q hs = shape0_sim (record { at = λ c d hc. read_sim x hc }) hs
    act_sim (Template qs) ss rs cs us q hs = record { at = λ c d hc. bind (template_sim qs hs hc) (with_text (λ t. gives_sim (text t))) }
    act_sim (Array ks) ss rs cs us q hs = record { at = λ c d hc. bind (array_items_sim ks hs hc) (λ v w r. gives_sim (items r)) }
    act_sim SpreadRecord ss rs cs us q hs = shape1_sim (λ m n hm. hm) hs
    act_sim Object ss rs cs us q hs = record { at = λ c d hc. bind (object_fields_sim hs no_entry hc) (λ v w r. gives_sim (entries r)) }
    act_sim KeyValue ss rs cs us q hs = shape2_sim (λ k k' m m' hk' hm. record { at = λ c d hc. bind (hk'.at c d hc) (λ a b p. bind (key_text_sim p) (with_text (λ t. bind (hm.at c d hc) (λ v w r. one_field_sim t r)))) }) hs
    act_sim (Shorthand x) ss rs cs us q hs = absurd q
    act_sim Method ss rs cs us q hs = shape3_sim (λ k k' p p' b b' hk' hp hb. record { at = λ c d hc. bind (hk'.at c d hc) (λ v w r. bind (key_text_sim r) (with_text (λ t. one_field_sim t (function q hc.env undefined)))) }) hs
    act_sim (PlainKey k) ss rs cs us q hs = shape0_sim (record { at = λ c d hc. gives_sim (text (key_name k)) }) hs
    act_sim ComputedKey ss rs cs us q hs = shape1_sim (λ m n hm. hm) hs
    act_sim (Fn o) ss rs cs us q hs = record { at = λ c d hc. gives_sim (function q hc.env undefined) }
    act_sim Arrow ss rs cs us q hs = record { at = λ c d hc. gives_sim (function q hc.env hc.this) }
    act_sim Body ss rs cs us q hs = run_all_sim hs
    act_sim (Unary Minus) ss rs cs us q hs = shape1_sim (λ m n hm. record { at = λ c d hc. unary_sim Minus hm hc }) hs
    act_sim (Unary Plus) ss rs cs us q hs = shape1_sim (λ m n hm. record { at = λ c d hc. unary_sim Plus hm hc }) hs
    act_sim (Unary Bang) ss rs cs us q hs = shape1_sim (λ m n hm. record { at = λ c d hc. unary_sim Bang hm hc }) hs
    act_sim (Unary Tilde) ss rs cs us q hs = shape1_sim (λ m n hm. record { at = λ c d hc. unary_sim Tilde hm hc }) hs
    act_sim (Unary TypeOf) ss rs cs us q hs = shape1_sim (λ m n hm. record { at = λ c d hc. unary_sim TypeOf hm hc }) hs
    act_sim (Unary Void) ss rs cs us q hs = shape1_sim (λ m n hm. record { at = λ c d hc. unary_sim Void hm hc }) hs
    act_sim (TypeOfName x) ss rs cs us q hs = shape0_sim (type_of_name_sim x) hs
    act_sim (Binary op) ss rs cs us q hs = shape2_sim (λ a a' b b' ha hb. record { at = λ c d hc. bind (ha.at c d hc) (λ v w r. operate_sim op r (hb.at c d hc)) }) hs
    act_sim Cond ss rs cs us q hs = shape3_sim (λ a a' b b' x x' ha hb hx. choice_sim ha hb hx) hs
    act_sim Seq ss rs cs us q hs = in_turn_sim hs
    act_sim (Dot k) ss rs cs us q hs = shape1_sim (λ o o' ho. record { at = λ c d hc. bind (ho.at c d hc) (λ v w r. get_sim r k) }) hs
    act_sim Index ss rs cs us q hs = shape2_sim (λ o o' k k' ho hk'. record { at = λ c d hc. bind (ho.at c d hc) (λ v w r. bind (hk'.at c d hc) (λ a b p. get_at_sim r p)) }) hs
    act_sim Call ss rs cs us q hs = shape1+_sim (λ f f' xs ys hf hx. record { at = λ c d hc. bind (hf.at c d hc) (λ v w r. bind (all_values_sim hx hc) (λ vs ws rs. call_value_sim hk r undefined rs)) }) hs
    act_sim (CallEval x) ss rs cs us q hs = record { at = λ c d hc. if_sim (sym (same_unresolved P x)) (leaves_sim leaves) (bind (read_sim x hc) (λ v w r. bind (all_values_sim hs hc) (λ vs ws rs. call_value_sim hk r undefined rs))) }
    act_sim New ss rs cs us q hs = shape1+_sim (λ m n xs ys hm hx. record { at = λ c d hc. bind (hm.at c d hc) (λ v w r. bind (all_values_sim hx hc) (λ vs ws rs. make_value_sim hk r rs)) }) hs
    act_sim (CallDot k) ss rs cs us q hs = shape1+_sim (λ o o' xs ys ho hx. record { at = λ c d hc. bind (ho.at c d hc) (λ v w r. bind (get_sim r k) (λ f g u. bind (all_values_sim hx hc) (λ vs ws rs. call_value_sim hk u r rs))) }) hs
    act_sim CallIndex ss rs cs us q hs = shape2+_sim (λ o o' k k' xs ys ho hk' hx. record {
      at = λ c d hc. bind (ho.at c d hc) (λ v w r. bind (hk'.at c d hc) (λ a b p. bind (get_at_sim r p) (λ f g u. bind (all_values_sim hx hc) (λ vs ws rs. call_value_sim hk u r rs))));
    }) hs
    act_sim (Assign op x) ss rs cs us q hs = shape1_sim (λ m m' hm. record { at = λ c d hc. assign_sim _ (read_sim x hc) (hm.at _ _ hc) (λ v w r. write_sim x r hc) }) hs
    act_sim (AssignDot op k) ss rs cs us q hs = shape2_sim (λ o o' m m' ho hm. record { at = λ c d hc. bind (ho.at c d hc) (λ v w r. assign_sim _ (get_sim r k) (hm.at c d hc) (λ a b p. put_sim r k p)) }) hs
    act_sim (AssignIndex op) ss rs cs us q hs = shape3_sim (λ o o' k k' m m' ho hk' hm. record { at = λ c d hc. bind (ho.at c d hc) (λ v w r. bind (hk'.at c d hc) (λ a b p. assign_sim _ (get_at_sim r p) (hm.at c d hc) (λ x y u. put_at_sim r p u))) }) hs
    act_sim (Update op prefix x) ss rs cs us q hs = shape0_sim (record { at = λ c d hc. update_sim op prefix (read_sim x hc) (λ v w r. write_sim x r hc) }) hs
    act_sim (UpdateDot op prefix k) ss rs cs us q hs = shape1_sim (λ o o' ho. record { at = λ c d hc. bind (ho.at c d hc) (λ v w r. update_sim op prefix (get_sim r k) (λ a b p. put_sim r k p)) }) hs
    act_sim (UpdateIndex op prefix) ss rs cs us q hs = shape2_sim (λ o o' k k' ho hk'. record { at = λ c d hc. bind (ho.at c d hc) (λ v w r. bind (hk'.at c d hc) (λ a b p. update_sim op prefix (get_at_sim r p) (λ x y u. put_at_sim r p u))) }) hs
    act_sim Block ss rs cs us q hs = in_list_scope_sim q (run_all_sim hs)
    act_sim Empty ss rs cs us q hs = shape0_sim (record { at = λ c d hc. gives_sim undefined }) hs
    act_sim Throw ss rs cs us q hs = shape1_sim (λ m m' hm. record { at = λ c d hc. bind (hm.at c d hc) (λ v w r. jumps_sim (thrown r)) }) hs
    act_sim ExprStmt ss rs cs us q hs = shape1_sim (λ m m' hm. record { at = λ c d hc. bind (hm.at c d hc) (λ v w r. gives_sim undefined) }) hs
    act_sim Return ss rs cs us q hs = return_sim hs
    act_sim If ss rs cs us q hs = if_node_sim hs
    act_sim While ss rs cs us q hs = shape2_sim (λ t t' b b' ht hb. record { at = λ c d hc. turns_sim n ht hb (λ c d hd. gives_sim hd) (record { at = λ c d hd. gives_sim undefined }) hc }) hs
    act_sim DoWhile ss rs cs us q hs = shape2_sim (λ b b' t t' hb ht. record { at = λ c d hc. do_turns_sim n hb ht hc }) hs
    act_sim For ss rs cs us q hs = shape4_sim (λ i i' t t' u u' b b' hi ht hu hb. for_loop_sim n q i i' t t' u u' b b' hi ht hu hb) hs
    act_sim Absent ss rs cs us q hs = shape0_sim (record { at = λ c d hc. gives_sim (truth true) }) hs
    act_sim (Labeled l) ss rs cs us q hs = shape1_sim (λ m m' hm. record { at = λ c d hc s t h. at_label_sim l (hm.at _ _ (record { env = hc.env; this = hc.this; labels = ap (λ ls. l ∷ ls) hc.labels }) s t h) }) hs
    act_sim (Break l) ss rs cs us q hs = shape0_sim (record { at = λ c d hc. jumps_sim (broken l) }) hs
    act_sim (Continue l) ss rs cs us q hs = shape0_sim (record { at = λ c d hc. jumps_sim (continued l) }) hs
    act_sim (Switch ds) ss rs cs us q hs = shape1+_sim (λ m m' xs ys hm hx. switch_sim cs us q (cases_sim ds hx) hm) hs
    act_sim CaseBody ss rs cs us q hs = run_all_sim hs
    act_sim (Try p) ss rs cs us q hs = shape3_sim (try_sim p) hs
    act_sim (VarDecl kind) ss rs cs us q hs = run_all_sim hs
    act_sim (Declarator kind x) ss rs cs us q hs = declare_sim kind x hs
    act_sim (FnDecl x) ss rs cs us q hs = record { at = λ c d hc. gives_sim undefined }
    act_sim ExportDecl ss rs cs us q hs = run_all_sim hs
    act_sim (Import src) ss rs cs us q hs = record { at = λ c d hc. gives_sim undefined }
    act_sim ExportNamed ss rs cs us q hs = record { at = λ c d hc. gives_sim undefined }
    act_sim (ExportDefaultFn o) ss rs cs us q hs = record { at = λ c d hc. gives_sim undefined }
    act_sim ExportDefaultExpr ss rs cs us q hs = shape1_sim (λ m m' hm. record { at = λ c d hc. bind (hm.at c d hc) (λ v w r. default_sim r hc) }) hs
    act_sim _ ss rs cs us q hs = bad_sim _
