use Rattle.json_lines.proofs.text.write_json_lines.Given as goal

abbrev pub ghosts-write_to : goal.ghosts-write_to
ghosts-write_to g a = record { name = a.sink.ghost_name; before = (g.K.Sink.taken a.sink.now, g.K.Sink.failures a.sink.now) }
