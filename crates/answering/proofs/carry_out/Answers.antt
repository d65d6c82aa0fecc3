-- One function a command.
use Rattle.answering.proofs.Store.{tells-on, closes}
use Rattle.answering.proofs.carry_out.Goals as goal

pub returns-in-Open : goal.returns-in-Open
returns-in-Open c = rw c.in-Open.is (tells-on c.requires.roomy c.args.items.now c.requires.kept _ _ _ c.open_phase.ensures)

pub returns-in-Order : goal.returns-in-Order
returns-in-Order c = rw c.in-Order.is (tells-on c.requires.roomy c.args.items.now c.requires.kept _ _ _ c.give_order.ensures)

pub returns-in-Run : goal.returns-in-Run
returns-in-Run c = rw c.in-Run.is (c.run_out.ensures c.args.items.now c.requires.kept)

pub returns-in-Close : goal.returns-in-Close
returns-in-Close c = rw c.in-Close.is (closes c.requires.roomy c.args.items.now c.requires.kept _ _ _ _ c.close_phase.ensures)

pub returns-in-List : goal.returns-in-List
returns-in-List c = rw c.in-List.is (tells-on c.requires.roomy c.args.items.now c.requires.kept _ _ _ c.list_table.ensures)
