use Rattle.std.proofs.Common.{map, subst, sym}
use Rattle.std.specs.Prelude.{string_bytes}
use Rattle.cal_call_live.specs.Words.{no_options}
use Rattle.cal_call_live.proofs.RoomBounds.{AsksRoom, live_asks}
use Rattle.cal_call_live.proofs.words.read_live_words.Goals as goal

-- the room of the options
pub returns-clause-room : goal.returns-clause-room
returns-clause-room c =
    let words = map string_bytes c.in-Some.others.now in
    subst AsksRoom (sym c.read_options.ensures) (live_asks words 1 no_options tt)
