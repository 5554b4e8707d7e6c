-- The stored form of a packed JSON value.
use Rattle.std.specs.Prelude.{⊤}
use Rattle.st_plain.specs.Plain.{Plain}
use Rattle.st_plain.specs.ReadAgain.{IsReadAgain, value_read}
use Rattle.st_plain.specs.Shapes.{json_of}
use Rattle.st_canon.specs.View.{plain}
use Rattle.st_canon.specs.declared.packed.Form.{Form}
use Rattle.st_canon.specs.declared.packed.Form.TheVariants.{Text, Within, Parts}

-- the stored value: a text means the value it is read as
abbrev pub packed_value : Form → Plain
packed_value (Text text) = value_read (json_of text)
packed_value (Within text) = value_read (json_of text)
packed_value (Parts value) = plain value

-- the form can be stored
abbrev pub IsPacked : Form → Type 0
IsPacked (Text text) = IsReadAgain text
IsPacked (Within text) = IsReadAgain text
IsPacked (Parts value) = ⊤
