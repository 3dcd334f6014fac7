-- A list that is swept declares the same.
use Rattle.std.proofs.Common.{refl}
use Rattle.swc_ast.specs.Tree.{Empty, Block, node, Forest, ε}
use Rattle.meaning_proofs.specs.Names.{Names}
use Rattle.meaning_proofs.specs.Roles.{SameLists}
use Rattle.meaning_proofs.proofs.Laws.{same_lists_itself, same_lists_trans}
use Rattle.meaning_proofs.proofs.ListRules.{same_lists_cons, same_lists_without, same_lists_flat}
use Rattle.branch_rules.specs.Lists.{Swept, none_swept, item_stays, empty_goes, block_opens}
use Rattle.branch_proofs.proofs.ListsExact.{bares_declare}

pub swept_same : {N : Names} {ts us : Forest} → Swept ts us → SameLists N ts us
swept_same none_swept = same_lists_itself ε
swept_same (item_stays t {ts} {us} s) = same_lists_cons t ts us (swept_same s)
swept_same (empty_goes ss {ts} s) = same_lists_trans (same_lists_without (node Empty ss ε) ts refl) (swept_same s)
swept_same (block_opens ss cs {ts} {us} b s) = same_lists_trans (same_lists_cons (node Block ss cs) ts us (swept_same s)) (same_lists_flat ss cs us (bares_declare cs b))
