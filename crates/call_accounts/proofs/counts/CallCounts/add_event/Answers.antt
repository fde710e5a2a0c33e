use Rattle.std.proofs.Common.{refl}
use Rattle.call_accounts.proofs.counts.CallCounts.add_event.Goals as goal

pub returns-in-Up : goal.returns-in-Up
returns-in-Up c = c.rise.ensures c.args.event.now refl c.in-Up.is

pub returns-in-Data : goal.returns-in-Data
returns-in-Data c = c.add_data.ensures c.args.event.now c.in-Data.is c.requires.segments

pub returns-in-Setting : goal.returns-in-Setting
returns-in-Setting c = c.say.ensures c.args.event.now c.in-Setting.is

pub returns-in-Initial : goal.returns-in-Initial
returns-in-Initial c = c.forget.ensures c.args.event.now c.in-Initial.is
