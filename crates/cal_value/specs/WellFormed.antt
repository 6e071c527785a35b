use Rattle.std.specs.Prelude.{◌≡◌, ◌≢◌, List, [], All}
use Rattle.cal_value.specs.Reading.{IsProper}
use Rattle.cal_value.specs.Values.{kind_of}
use Rattle.cal_value.specs.declared.attribute.Entry.{Entry}
use Rattle.cal_value.specs.declared.record.Rec.{Rec}

-- The value is of its attribute's kind, and no Real whose text reads as a Fixed.
pub record IsEntry (e : Entry) : Type 0 where
  pub kind : kind_of e.value ≡ e.attr.kind
  pub proper : IsProper e.value

-- A path has an entry at least, the outermost first.
pub record IsPath (path : List Entry) : Type 0 where
  pub some : path ≢ []
  pub entries : All IsEntry path

-- The paths of a record are paths, and its immediates are entries.
pub record IsRecord (r : Rec) : Type 0 where
  pub paths : All IsPath r.paths
  pub imms : All IsEntry r.imms
