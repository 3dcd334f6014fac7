use Rattle.pass_places.proofs.Views.{delete_at, delete_not_at, other_delete}
use Rattle.pass_places.proofs.places.is_delete.Goals as goal

pub returns-in-Delete : goal.returns-in-Delete
returns-in-Delete c = delete_at c.in-Unary.n _ c.in-Unary.is c.in-Delete.is

pub returns-in_default-op : goal.returns-in_default-op
returns-in_default-op c = delete_not_at c.in-Unary.n _ c.in-Unary.is c.in_default-op.not-Delete

pub returns-in_default : goal.returns-in_default
returns-in_default c = other_delete _ c.in_default.not-Unary
