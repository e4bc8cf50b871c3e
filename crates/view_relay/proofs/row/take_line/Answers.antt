use Rattle.view_relay.proofs.row.take_line.Goals as goal

pub returns-in-Carry : goal.returns-in-Carry
returns-in-Carry c = rw c.in-Carry.is (rw c.as_slice.ensures at (c.carry.ensures c.args.out.now.items))

pub returns-in-Client : goal.returns-in-Client
returns-in-Client c = rw c.in-Client.is (rw c.as_slice-in-Client.ensures at (c.client.ensures c.args.out.now.items))

pub returns-in-Frame : goal.returns-in-Frame
returns-in-Frame c = rw c.in-Frame.is (rw c.as_slice-in-Frame.ensures at (c.origin.ensures c.args.out.now.items))

pub returns-in-Leave : goal.returns-in-Leave
returns-in-Leave c = rw c.in-Leave.is (c.leave.ensures c.args.out.now.items)
