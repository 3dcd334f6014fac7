use Rattle.std.proofs.Common.{◌+◌, ◌*◌, drop}
use Rattle.swc_json_parse.proofs.Pieces.{ElementsLead, MembersLead}
use Rattle.swc_json_parse.proofs.text.+text.Given as goal

abbrev pub decreases-write : goal.decreases-write
decreases-write g l = 4 * goal.size-write g l

abbrev pub decreases-write_array : goal.decreases-write_array
decreases-write_array g l = 4 * goal.size-write_array g l + 3

abbrev pub decreases-write_elements : goal.decreases-write_elements
decreases-write_elements g l = 4 * goal.size-write_elements g l + 1

abbrev pub decreases-write_object : goal.decreases-write_object
decreases-write_object g l = 4 * goal.size-write_object g l + 3

abbrev pub decreases-write_members : goal.decreases-write_members
decreases-write_members g l = 4 * goal.size-write_members g l + 1

abbrev pub decreases-write_member : goal.decreases-write_member
decreases-write_member g l = 4 * goal.size-write_member g l

abbrev pub decreases-write_key_value : goal.decreases-write_key_value
decreases-write_key_value g l = 4 * goal.size-write_key_value g l + 3

abbrev pub invariant-write_elements-loop-item : goal.invariant-write_elements-loop-item
invariant-write_elements-loop-item g l = ElementsLead g.O.Out.takes l.levels l.later (drop l.item-index l.items) l.out l.items l.initial.out

abbrev pub invariant-write_members-loop-prop : goal.invariant-write_members-loop-prop
invariant-write_members-loop-prop g l = MembersLead g.O.Out.takes l.levels l.later (drop l.prop-index l.props) l.out l.props l.initial.out
