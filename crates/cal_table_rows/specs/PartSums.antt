-- The sums over the parts of a trace.
use Rattle.std.specs.Prelude.{List, ◌++◌, IsPermutation}
use Rattle.cal_profile.specs.Declared.{HasSums}
use Rattle.cal_script.specs.declared.script.ChannelQuery.{ChannelQuery}
use Rattle.cal_value.specs.declared.record.Rec.{Rec}

-- The sums over each part of a trace aren't too large, whichever records it has. That those over
-- the whole trace aren't doesn't say so: what is above the limit may be balanced by the rest.
abbrev pub HasPartSums : ChannelQuery → List Rec → Type 0
HasPartSums channel trace =
    (part rest : List Rec) → IsPermutation (part ++ rest) trace → HasSums channel part
