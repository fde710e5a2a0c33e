use Rattle.data_transfer.proofs.WordLemmas.{unconfirmed_read}
use Rattle.data_transfer.proofs.word.unconfirmed.Goals as goal

pub returns : goal.returns
returns c = rw (c.bit.ensures, c.unconfirmed_at.ensures.place) (unconfirmed_read c.args.side c.args.word)
