-- What is seen in nodes and in trees in a row.
use Rattle.std.proofs.Common.{◌≡◌, false, ◌||◌, [], sym, ap, ap₂, ◌∙◌}
use Rattle.std.specs.Prelude.{if◌then◌else◌}
use Rattle.swc_ast.specs.Tree.{Label, Tree, node, Forest, ε, ◌⊳◌, label_of, children_of}
use Rattle.swc_ast.specs.Reach.{named_by}
use Rattle.dce_rules.specs.Uses.{has_arguments, is_arguments, names_arguments, any_arguments, is_eval, calls_eval, any_eval}
use Rattle.dce_uses.specs.declared.seen.Seen.{Seen}
use Rattle.dce_uses.specs.Sights.{Sees, SeesAmong, IsWith}
use Rattle.dce_uses.proofs.Adding.{or_false, or_grouped}

-- a node, by what is seen among its children

eval_at : (t : Tree) (l : Label) (cs : Forest) → label_of t ≡ l → children_of t ≡ cs → calls_eval t ≡ (is_eval l || any_eval cs)
eval_at (node l ss cs) k ds labelled held = ap₂ (λ m us. is_eval m || any_eval us) labelled held

arguments_at : (t : Tree) (l : Label) (cs : Forest) → label_of t ≡ l → children_of t ≡ cs → names_arguments t ≡ (if has_arguments l then false else (is_arguments (named_by l) || any_arguments cs))
arguments_at (node l ss cs) k ds labelled held = ap₂ (λ m us. if has_arguments m then false else (is_arguments (named_by m) || any_arguments us)) labelled held

pub seen_at : (l : Label) (cs : Forest) (inside s : Seen) → SeesAmong inside cs → IsWith inside l s → Sees s (node l [] cs)
seen_at l cs inside s among h = record {
  eval = h.eval ∙ ap (λ b. is_eval l || b) among.eval;
  arguments = h.arguments ∙ ap (λ b. if has_arguments l then false else (is_arguments (named_by l) || b)) among.arguments;
}

-- the same of a whole node
pub seen_as : (t : Tree) (l : Label) (cs : Forest) (s : Seen) → label_of t ≡ l → children_of t ≡ cs → Sees s (node l [] cs) → Sees s t
seen_as t l cs s labelled held h = record { eval = h.eval ∙ sym (eval_at t l cs labelled held); arguments = h.arguments ∙ sym (arguments_at t l cs labelled held) }

-- children, one after another

-- what is seen, and in those that are left
pub record SeenSo (s : Seen) (left all : Forest) : Type 0 where
  pub eval : (s.eval || any_eval left) ≡ any_eval all
  pub arguments : (s.arguments || any_arguments left) ≡ any_arguments all

pub sees_first : (s : Seen) (all : Forest) → s.eval ≡ false → s.arguments ≡ false → SeenSo s all all
sees_first s all e a = record { eval = ap (λ b. b || any_eval all) e; arguments = ap (λ b. b || any_arguments all) a }

pub sees_more : (s more new : Seen) (t : Tree) (ts us all : Forest) → us ≡ t ⊳ ts → Sees more t → new.eval ≡ (s.eval || more.eval) → new.arguments ≡ (s.arguments || more.arguments) → SeenSo s us all → SeenSo new ts all
sees_more s more new t ts us all is here e a h = record {
  eval =
      ap (λ b. b || any_eval ts) (e ∙ ap (λ b. s.eval || b) here.eval) ∙ or_grouped s.eval (calls_eval t) (any_eval ts)
      ∙ sym (ap (λ vs. s.eval || any_eval vs) is) ∙ h.eval;
  arguments =
      ap (λ b. b || any_arguments ts) (a ∙ ap (λ b. s.arguments || b) here.arguments) ∙ or_grouped s.arguments (names_arguments t) (any_arguments ts)
      ∙ sym (ap (λ vs. s.arguments || any_arguments vs) is) ∙ h.arguments;
}

pub sees_all : (s : Seen) (us all : Forest) → us ≡ ε → SeenSo s us all → SeesAmong s all
sees_all s us all is h = record {
  eval = sym (ap (λ vs. s.eval || any_eval vs) is ∙ or_false s.eval) ∙ h.eval;
  arguments = sym (ap (λ vs. s.arguments || any_arguments vs) is ∙ or_false s.arguments) ∙ h.arguments;
}
