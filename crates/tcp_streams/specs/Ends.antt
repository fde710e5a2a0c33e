-- The ends of a connection.
use Rattle.tcp_streams.specs.declared.ends.Ends.{Ends}

abbrev pub turned : Ends → Ends
turned e = record { first = e.second; second = e.first }
