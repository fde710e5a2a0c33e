use Rattle.channel_machine.proofs.channel.StatusChannel.handle.Goals as goal

pub returns-in_default-clause-does : goal.returns-in_default-clause-does
returns-in_default-clause-does g c k reached s = c.handle_by_table.ensures.does k reached s

pub returns-in_default-packet-clause-does : goal.returns-in_default-packet-clause-does
returns-in_default-packet-clause-does g c k reached s = c.handle_by_table-in_default-packet.ensures.does k reached s

pub returns-in-Channel-default-Rr-Some-clause-does : goal.returns-in-Channel-default-Rr-Some-clause-does
returns-in-Channel-default-Rr-Some-clause-does g c k reached s = c.handle_ready.ensures.does k s

pub returns-in-Channel-default-Data-Some-clause-does : goal.returns-in-Channel-default-Data-Some-clause-does
returns-in-Channel-default-Data-Some-clause-does g c k reached s = c.handle_unqualified.ensures.does k s
