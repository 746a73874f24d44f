-- The fields of a body.
use Rattle.std.specs.Prelude.{List, map}
use Rattle.mig_base.specs.declared.jedec.Field.{Field}
use Rattle.mig_base.specs.FuseText.{Statement, statement_of, pieces, fields_from, fields_of}
use Rattle.jed_text.specs.declared.body.Body.{Body}
use Rattle.jed_text.specs.declared.body.Fields.{Fields}
use Rattle.jed_text.specs.declared.field.FieldText.{FieldText}

-- a field of the reader
abbrev pub field_said : FieldText → Field
field_said f = record { at = f.at; text = f.text.now }

-- the fields that are left
abbrev pub fields_left : Fields → List Field
fields_left fields = fields_from fields.at (pieces fields.rest.now)

-- what the fields of a body say
abbrev pub statements_of : Body → List Statement
statements_of body = map statement_of (fields_of body.at (pieces body.text.now))
