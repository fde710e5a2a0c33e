-- What the terms of a channel hold.
use Rattle.channel_machine.specs.declared.terms.Terms.{Terms}
use Rattle.channel_machine.specs.TermsRepresent.{Agreed}

abbrev pub agreed_of : Terms → Agreed
agreed_of t = record { interface = t.interface; call = t.call; values = t.values }
