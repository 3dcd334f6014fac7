-- Each label takes children of related meanings to related meanings.
use Rattle.std.proofs.Common.{◌≡◌, ℕ, true, false, List, ◌∷◌, refl, ap}
use Rattle.swc_ast.specs.declared.Span.{Span}
use Rattle.swc_ast.specs.declared.UnaryOp.{UnaryOp}
use Rattle.swc_ast.specs.declared.UnaryOp.TheVariants.{Minus, Plus, Bang, Tilde, TypeOf, Void}
use Rattle.swc_ast.specs.declared.AssignOp.{AssignOp}
use Rattle.swc_ast.specs.Tree.{Name, Label, NumLit, StrLit, BoolLit, NullLit, This, Read, Template, Array, Object, SpreadRecord, KeyValue, Shorthand, Method, PlainKey, ComputedKey, Fn, Arrow, Body, Unary, TypeOfName, Binary, Cond, Seq, Dot, Index, Call, New, CallEval, CallDot, CallIndex, Assign, AssignDot, AssignIndex, Update, UpdateDot, UpdateIndex, Block, Empty, Throw, ExprStmt, Return, If, While, DoWhile, For, Absent, Labeled, Break, Continue, Switch, CaseBody, Try, VarDecl, Declarator, FnDecl, ExportDecl, ExportDefaultExpr, Import, ExportNamed, ExportDefaultFn, node, Forest}
use Rattle.swc_ast.specs.Value.{Value, TypeOf as TypeOfEvent, and_then, Context, Meaning}
use Rattle.swc_ast.specs.Scope.{case_statements, default_name}
use Rattle.swc_ast.specs.Operators.{unary_value}
use Rattle.swc_ast.specs.Meaning.{assign, operator_of, read, write, leaves, in_core, checked_type, is_type_name, key_name, first_tree, type_of_name, act, Caller}
use Rattle.meaning_proofs.specs.Names.{not_slack, Seen, Settable, Assignable, set_and_read, only_set}
use Rattle.meaning_proofs.proofs.Relation.{Pairing, Each, V, undefined, null, truth, num, text, items, entries, function, no_entry, C, broken, continued, thrown, Ran, M}
use Rattle.meaning_proofs.proofs.Combine.{gives_sim, leaves_sim, jumps_sim, if_sim, in_core_sim, bind}
use Rattle.meaning_proofs.proofs.Prims.{same_unary}
use Rattle.meaning_proofs.proofs.Results.{unary_data}
use Rattle.meaning_proofs.proofs.Members.{maybe_same}
use Rattle.meaning_proofs.proofs.Stores.{free, seen_of, ask_sim, read_sim, write_sim, write_kept_sim, initialise_sim}
use Rattle.meaning_proofs.proofs.Parts.{K, get_sim, put_sim, get_at_sim, put_at_sim, read_this_sim, call_value_sim, make_value_sim, all_values_sim, in_turn_sim, run_all_sim, array_items_sim, template_sim, object_fields_sim, key_text_sim, one_field_sim, with_text, operate_sim, assign_sim, update_sim, choice_sim, bad_sim}
use Rattle.meaning_proofs.proofs.Shapes.{shape0_sim, shape1_sim, shape2_sim, shape3_sim, shape4_sim, shape1+_sim, shape2+_sim, if_node_sim, return_sim}
use Rattle.meaning_proofs.proofs.Loops.{turns_sim, do_turns_sim, at_label_sim}
use Rattle.meaning_proofs.proofs.Statements.{SameList, SameHead, FreeParam, cases_sim, in_list_scope_sim, switch_sim, try_sim, declare_sim, for_loop_sim}

-- what two nodes of one label need beside children that mean the same
abbrev pub Side : Pairing → ℕ → Label → List Span → List Span → Forest → Forest → Type 0
Side P mark (Read x) ss rs cs us = Seen P.names mark x
Side P mark (CallEval x) ss rs cs us = Seen P.names mark x
Side P mark (TypeOfName x) ss rs cs us = Seen P.names mark x
Side P mark (Assign op x) ss rs cs us = Assignable P.names mark op x
Side P mark (Update op prefix x) ss rs cs us = Settable P.names mark x
Side P mark (Shorthand x) ss rs cs us = Seen P.names mark x
Side P mark (Declarator kind x) ss rs cs us = (P.dropped x ≡ false) × (P.guarded x ≡ false)
Side P mark ExportDefaultExpr ss rs cs us = (P.dropped default_name ≡ false) × (P.guarded default_name ≡ false)
Side P mark (Fn o) ss rs cs us = P.Keeps (node (Fn o) ss cs) (node (Fn o) rs us)
Side P mark Arrow ss rs cs us = P.Keeps (node Arrow ss cs) (node Arrow rs us)
Side P mark Method ss rs cs us = P.Keeps (node Method ss cs) (node Method rs us)
Side P mark Block ss rs cs us = SameList P cs us
Side P mark For ss rs cs us = SameHead P (first_tree cs) (first_tree us)
Side P mark (Switch ds) ss rs cs us = SameList P (case_statements cs) (case_statements us)
Side P mark (Try p) ss rs cs us = FreeParam P.names p
Side P mark _ ss rs cs us = Unit {0}

module _ {P : Pairing} where
  type_name_sim : {v w : Value} → V P v w → is_type_name v ≡ is_type_name w
  type_name_sim (items r) = refl
  type_name_sim _ = refl

  checked_sim : {v w : Value} → V P v w → Ran P (V P) (checked_type v) (checked_type w)
  checked_sim r = if_sim (type_name_sim r) (gives_sim r) (leaves_sim leaves)

  unary_sim : (op : UnaryOp) {m n : Meaning} → M P m n → {c d : Context} → C P c d → Ran P (V P) (λ s. and_then (m c s) (λ v. in_core (unary_value op v))) (λ s. and_then (n d s) (λ v. in_core (unary_value op v)))
  unary_sim op hm hc = bind (hm.at _ _ hc) (λ v w r. in_core_sim (maybe_same (same_unary op r) (unary_data op v)))

  type_of_name_sim : (mark : ℕ) (x : Name) → Seen P.names mark x → M P (type_of_name mark x) (type_of_name mark x)
  unfolding type_of_name
  type_of_name_sim mark x q = record {
    at = λ c d hc.
        if_sim refl
        (bind (ask_sim (TypeOfEvent x.text)) (λ v w r. checked_sim r))
        (bind (read_sim mark x q hc) (λ v w r. in_core_sim (maybe_same (same_unary TypeOf r) (unary_data TypeOf v))));
  }

  assign_name_sim : (mark : ℕ) {op : AssignOp} {x : Name} → Assignable P.names mark op x → {m n : Meaning} → M P m n → {c d : Context} → C P c d → Ran P (V P) (assign (operator_of op) (read mark x c) (m c) (λ v. write mark x v c)) (assign (operator_of op) (read mark x d) (n d) (λ v. write mark x v d))
  unfolding assign
  assign_name_sim mark (set_and_read {x = x} q) hm hc = assign_sim _ (read_sim mark x (seen_of q) hc) (hm.at _ _ hc) (λ v w r. write_sim mark x q r hc)
  assign_name_sim mark (only_set {x} keeps z f) hm hc = bind (hm.at _ _ hc) (λ v w r. write_kept_sim mark x keeps (not_slack z) f r hc)

  module _ (mark n : ℕ) {call call' : Caller} (hk : K P call call') where
    pub act_sim : (l : Label) (ss rs : List Span) (cs us : Forest) → Side P mark l ss rs cs us → {ms ns : List Meaning} → Each (M P) ms ns → M P (act mark n call l ss cs ms) (act mark n call' l rs us ns)
    unfolding act
    act_sim (NumLit z) ss rs cs us q hs = shape0_sim (record { at = λ c d hc. gives_sim (num z) }) hs
    act_sim (StrLit t) ss rs cs us q hs = shape0_sim (record { at = λ c d hc. gives_sim (text t) }) hs
    act_sim (BoolLit b) ss rs cs us q hs = shape0_sim (record { at = λ c d hc. gives_sim (truth b) }) hs
    act_sim NullLit ss rs cs us q hs = shape0_sim (record { at = λ c d hc. gives_sim null }) hs
    act_sim This ss rs cs us q hs = shape0_sim (record { at = λ c d hc. read_this_sim hc.this }) hs
    act_sim (Read x) ss rs cs us q hs = shape0_sim (record { at = λ c d hc. read_sim mark x q hc }) hs
    act_sim (Template qs) ss rs cs us q hs = record { at = λ c d hc. bind (template_sim qs hs hc) (with_text (λ t. gives_sim (text t))) }
    act_sim (Array ks) ss rs cs us q hs = record { at = λ c d hc. bind (array_items_sim ks hs hc) (λ v w r. gives_sim (items r)) }
    act_sim SpreadRecord ss rs cs us q hs = shape1_sim (λ m n hm. hm) hs
    act_sim Object ss rs cs us q hs = record { at = λ c d hc. bind (object_fields_sim hs no_entry hc) (λ v w r. gives_sim (entries r)) }
    act_sim KeyValue ss rs cs us q hs = shape2_sim (λ k k' m m' hk' hm. record { at = λ c d hc. bind (hk'.at c d hc) (λ a b p. bind (key_text_sim p) (with_text (λ t. bind (hm.at c d hc) (λ v w r. one_field_sim t r)))) }) hs
    act_sim (Shorthand x) ss rs cs us q hs = shape0_sim (record { at = λ c d hc. bind (read_sim mark x q hc) (λ v w r. one_field_sim x.text r) }) hs
    act_sim Method ss rs cs us q hs = shape3_sim (λ k k' p p' b b' hk' hp hb. record { at = λ c d hc. bind (hk'.at c d hc) (λ v w r. bind (key_text_sim r) (with_text (λ t. one_field_sim t (function q hc.env undefined)))) }) hs
    act_sim (PlainKey k) ss rs cs us q hs = shape0_sim (record { at = λ c d hc. gives_sim (text (key_name k)) }) hs
    act_sim ComputedKey ss rs cs us q hs = shape1_sim (λ m n hm. hm) hs
    act_sim (Fn o) ss rs cs us q hs = record { at = λ c d hc. gives_sim (function q hc.env undefined) }
    act_sim Arrow ss rs cs us q hs = record { at = λ c d hc. gives_sim (function q hc.env hc.this) }
    act_sim Body ss rs cs us q hs = run_all_sim hs
    act_sim (Unary Minus) ss rs cs us q hs = shape1_sim (λ m n hm. record { at = λ c d hc. unary_sim Minus hm hc }) hs
    act_sim (Unary Plus) ss rs cs us q hs = shape1_sim (λ m n hm. record { at = λ c d hc. unary_sim Plus hm hc }) hs
    act_sim (Unary Bang) ss rs cs us q hs = shape1_sim (λ m n hm. record { at = λ c d hc. unary_sim Bang hm hc }) hs
    act_sim (Unary Tilde) ss rs cs us q hs = shape1_sim (λ m n hm. record { at = λ c d hc. unary_sim Tilde hm hc }) hs
    act_sim (Unary TypeOf) ss rs cs us q hs = shape1_sim (λ m n hm. record { at = λ c d hc. unary_sim TypeOf hm hc }) hs
    act_sim (Unary Void) ss rs cs us q hs = shape1_sim (λ m n hm. record { at = λ c d hc. unary_sim Void hm hc }) hs
    act_sim (TypeOfName x) ss rs cs us q hs = shape0_sim (type_of_name_sim mark x q) hs
    act_sim (Binary op) ss rs cs us q hs = shape2_sim (λ a a' b b' ha hb. record { at = λ c d hc. bind (ha.at c d hc) (λ v w r. operate_sim op r (hb.at c d hc)) }) hs
    act_sim Cond ss rs cs us q hs = shape3_sim (λ a a' b b' x x' ha hb hx. choice_sim ha hb hx) hs
    act_sim Seq ss rs cs us q hs = in_turn_sim hs
    act_sim (Dot k) ss rs cs us q hs = shape1_sim (λ o o' ho. record { at = λ c d hc. bind (ho.at c d hc) (λ v w r. get_sim r k) }) hs
    act_sim Index ss rs cs us q hs = shape2_sim (λ o o' k k' ho hk'. record { at = λ c d hc. bind (ho.at c d hc) (λ v w r. bind (hk'.at c d hc) (λ a b p. get_at_sim r p)) }) hs
    act_sim Call ss rs cs us q hs = shape1+_sim (λ f f' xs ys hf hx. record { at = λ c d hc. bind (hf.at c d hc) (λ v w r. bind (all_values_sim hx hc) (λ vs ws rs. call_value_sim hk r undefined rs)) }) hs
    act_sim (CallEval x) ss rs cs us q hs = record { at = λ c d hc. if_sim refl (leaves_sim leaves) (bind (read_sim mark x q hc) (λ v w r. bind (all_values_sim hs hc) (λ vs ws rs. call_value_sim hk r undefined rs))) }
    act_sim New ss rs cs us q hs = shape1+_sim (λ m n xs ys hm hx. record { at = λ c d hc. bind (hm.at c d hc) (λ v w r. bind (all_values_sim hx hc) (λ vs ws rs. make_value_sim hk r rs)) }) hs
    act_sim (CallDot k) ss rs cs us q hs = shape1+_sim (λ o o' xs ys ho hx. record { at = λ c d hc. bind (ho.at c d hc) (λ v w r. bind (get_sim r k) (λ f g u. bind (all_values_sim hx hc) (λ vs ws rs. call_value_sim hk u r rs))) }) hs
    act_sim CallIndex ss rs cs us q hs = shape2+_sim (λ o o' k k' xs ys ho hk' hx. record {
      at = λ c d hc. bind (ho.at c d hc) (λ v w r. bind (hk'.at c d hc) (λ a b p. bind (get_at_sim r p) (λ f g u. bind (all_values_sim hx hc) (λ vs ws rs. call_value_sim hk u r rs))));
    }) hs
    act_sim (Assign op x) ss rs cs us q hs = shape1_sim (λ m m' hm. record { at = λ c d hc. assign_name_sim mark q hm hc }) hs
    act_sim (AssignDot op k) ss rs cs us q hs = shape2_sim (λ o o' m m' ho hm. record { at = λ c d hc. bind (ho.at c d hc) (λ v w r. assign_sim _ (get_sim r k) (hm.at c d hc) (λ a b p. put_sim r k p)) }) hs
    act_sim (AssignIndex op) ss rs cs us q hs = shape3_sim (λ o o' k k' m m' ho hk' hm. record { at = λ c d hc. bind (ho.at c d hc) (λ v w r. bind (hk'.at c d hc) (λ a b p. assign_sim _ (get_at_sim r p) (hm.at c d hc) (λ x y u. put_at_sim r p u))) }) hs
    act_sim (Update op prefix x) ss rs cs us q hs = shape0_sim (record { at = λ c d hc. update_sim op prefix (read_sim mark x (seen_of q) hc) (λ v w r. write_sim mark x q r hc) }) hs
    act_sim (UpdateDot op prefix k) ss rs cs us q hs = shape1_sim (λ o o' ho. record { at = λ c d hc. bind (ho.at c d hc) (λ v w r. update_sim op prefix (get_sim r k) (λ a b p. put_sim r k p)) }) hs
    act_sim (UpdateIndex op prefix) ss rs cs us q hs = shape2_sim (λ o o' k k' ho hk'. record { at = λ c d hc. bind (ho.at c d hc) (λ v w r. bind (hk'.at c d hc) (λ a b p. update_sim op prefix (get_at_sim r p) (λ x y u. put_at_sim r p u))) }) hs
    act_sim Block ss rs cs us q hs = in_list_scope_sim q (run_all_sim hs)
    act_sim Empty ss rs cs us q hs = shape0_sim (record { at = λ c d hc. gives_sim undefined }) hs
    act_sim Throw ss rs cs us q hs = shape1_sim (λ m m' hm. record { at = λ c d hc. bind (hm.at c d hc) (λ v w r. jumps_sim (thrown r)) }) hs
    act_sim ExprStmt ss rs cs us q hs = shape1_sim (λ m m' hm. record { at = λ c d hc. bind (hm.at c d hc) (λ v w r. gives_sim undefined) }) hs
    act_sim Return ss rs cs us q hs = return_sim hs
    act_sim If ss rs cs us q hs = if_node_sim hs
    act_sim While ss rs cs us q hs = shape2_sim (λ t t' b b' ht hb. record { at = λ c d hc. turns_sim n ht hb (λ c d hd. gives_sim hd) (record { at = λ c d hd. gives_sim undefined }) hc }) hs
    act_sim DoWhile ss rs cs us q hs = shape2_sim (λ b b' t t' hb ht. record { at = λ c d hc. do_turns_sim n hb ht hc }) hs
    act_sim For ss rs cs us q hs = shape4_sim (λ i i' t t' u u' b b' hi ht hu hb. for_loop_sim n q i i' t t' u u' b b' hi ht hu hb) hs
    act_sim Absent ss rs cs us q hs = shape0_sim (record { at = λ c d hc. gives_sim (truth true) }) hs
    act_sim (Labeled l) ss rs cs us q hs = shape1_sim (λ m m' hm. record { at = λ c d hc s t h. at_label_sim l (hm.at _ _ (record { env = hc.env; this = hc.this; labels = ap (λ ls. l ∷ ls) hc.labels }) s t h) }) hs
    act_sim (Break l) ss rs cs us q hs = shape0_sim (record { at = λ c d hc. jumps_sim (broken l) }) hs
    act_sim (Continue l) ss rs cs us q hs = shape0_sim (record { at = λ c d hc. jumps_sim (continued l) }) hs
    act_sim (Switch ds) ss rs cs us q hs = shape1+_sim (λ m m' xs ys hm hx. switch_sim cs us q (cases_sim ds hx) hm) hs
    act_sim CaseBody ss rs cs us q hs = run_all_sim hs
    act_sim (Try p) ss rs cs us q hs = shape3_sim (try_sim p q) hs
    act_sim (VarDecl kind) ss rs cs us q hs = run_all_sim hs
    act_sim (Declarator kind x) ss rs cs us q hs = declare_sim kind x q.0 q.1 hs
    act_sim (FnDecl x) ss rs cs us q hs = record { at = λ c d hc. gives_sim undefined }
    act_sim ExportDecl ss rs cs us q hs = run_all_sim hs
    act_sim (Import src) ss rs cs us q hs = record { at = λ c d hc. gives_sim undefined }
    act_sim ExportNamed ss rs cs us q hs = record { at = λ c d hc. gives_sim undefined }
    act_sim (ExportDefaultFn o) ss rs cs us q hs = record { at = λ c d hc. gives_sim undefined }
    act_sim ExportDefaultExpr ss rs cs us q hs = shape1_sim (λ m m' hm. record { at = λ c d hc. bind (hm.at c d hc) (λ v w r. initialise_sim default_name q.0 (free q.1) r hc) }) hs
    act_sim _ ss rs cs us q hs = bad_sim _
