use Rattle.command_line.proofs.json.scan_lines.Given as goal

abbrev pub ghosts-scan_to : goal.ghosts-scan_to
ghosts-scan_to g a = record { name = a.sink.ghost_name; before = (g.K.Sink.taken a.sink.now, g.K.Sink.failures a.sink.now) }
