use Rattle.data_transfer.proofs.WordLemmas.{direction_read}
use Rattle.data_transfer.proofs.word.direction.Goals as goal

pub returns : goal.returns
returns c =
    rw (
      c.number.ensures,
      c.number-2.ensures,
      c.number-3.ensures,
      c.window_at.ensures.place,
      c.sent_at.ensures.place,
      c.acknowledged_at.ensures.place,
    )
    (direction_read c.args.side c.args.word)
