-- What contracts see of the table of fields.
use Rattle.std.specs.Prelude.{map}
use Rattle.json_lines.specs.Forms as forms
use Rattle.json_lines.specs.declared.fields.Field.{Field}
use Rattle.json_lines.specs.declared.fields.LineForm.{LineForm}

-- a field of the table
abbrev pub field_shown : Field → forms.Field
field_shown f = record { name = f.name.now; kind = f.kind }

-- a form of the table
abbrev pub form_shown : LineForm → forms.LineForm
form_shown f = record { title = f.title.now; fields = map field_shown f.fields.now }
