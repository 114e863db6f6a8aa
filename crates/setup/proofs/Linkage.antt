-- What a link finds of this crate's functions, in a world that holds its table: `answered` links the code of `judge` to say that it returns.
use mathlib.Core.Bool.{true}
use prog.Linked.{Tree, World, Holds, in_world}
use prog.LinkedThreads.{HasT}
use Rattle.setup.proofs.describe_forms.Symbol as describe_forms
use Rattle.setup.proofs.describe_term.Symbol as describe_term
use Rattle.setup.proofs.note_params.Symbol as note_params
use Rattle.setup.proofs.start.Symbol as start
use Rattle.setup.proofs.TheLink as link

abbrev pub table : Tree
table = link.table

abbrev pub Below : World → Type 0
Below = link.Below

pub linked_describe_forms : (W : World) → Holds W "setup" table → Below W → HasT (in_world W) true describe_forms.code
linked_describe_forms = link.linked-setup::describe_forms

pub linked_describe_term : (W : World) → Holds W "setup" table → Below W → HasT (in_world W) true describe_term.code
linked_describe_term = link.linked-setup::describe_term

pub linked_note_params : (W : World) → Holds W "setup" table → Below W → HasT (in_world W) true note_params.code
linked_note_params = link.linked-setup::note_params

pub linked_start : (W : World) → Holds W "setup" table → Below W → HasT (in_world W) true start.code
linked_start = link.linked-setup::start
