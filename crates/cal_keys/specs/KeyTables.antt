-- The keys of groups in the form in which they are kept.
use Rattle.std.specs.Prelude.{List, map}
use Rattle.cal_keys.specs.Keys.{single_key}
use Rattle.cal_keys.specs.declared.key.GroupKey.{GroupKey}
use Rattle.cal_keys.specs.declared.key_table.Form.{Form}
use Rattle.cal_keys.specs.declared.key_table.Form.TheVariants.{Hashed, Single}

-- nodes stand for their keys
abbrev pub keys_of : Form → List GroupKey
keys_of (Single nodes) = map single_key nodes
keys_of (Hashed hashed) = hashed.keys
