use Rattle.dce_proofs.proofs.ShakenLaws.{shaken_resolved, shaken_core, shaken_falls}
use Rattle.dce_proofs.proofs.Left.{unchanged_kept}
use Rattle.dce_proofs.proofs.Standing.{reached_stands}
use Rattle.dce_proofs.proofs.Apart.{none_apart}
use Rattle.dce_proofs.proofs.Settles.{shaken_is_same}
use Rattle.dce_proofs.proofs.laws.Goals as goal

pub returns : goal.returns
returns c = record {
  same = shaken_is_same;
  resolved = λ S retained mark d t u k w r. shaken_resolved k w r;
  core = λ S d t u w r. shaken_core w r;
  lighter = λ S t u w. shaken_falls w;
  left = unchanged_kept;
  reached = λ S retained mark d ss rs ts us k w r o s f e h. reached_stands (record { free_are = k.free_are; unread_are = k.unread_are; unread_bound = k.unread_bound }) w f e (none_apart ss ts f r o s h) h;
}
