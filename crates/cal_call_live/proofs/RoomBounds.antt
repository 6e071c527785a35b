-- The room that words ask for is within the limits of a mailbox.
use Rattle.std.proofs.Common.{◌≡◌, ℕ, ◌+◌, Bool, true, false, List, [], ◌∷◌, Option, Some}
use Rattle.std.proofs.Common.{None, Result, Err, lit≤}
use Rattle.std.specs.Prelude.{◌&&◌, IfOk, IfSome, codes, if◌then◌else◌, length, nat_le, refl}
use Rattle.std.specs.Prelude.{unwrap_or}
use Rattle.std.specs.Option.{option_map_or}
use Rattle.std.proofs.lemmas.Bool.{leb-true}
use Rattle.cal_value.specs.Reading.{uint_of}
use Rattle.cal_call.specs.GenWords.{in_range, number_once, value_behind}
use Rattle.cal_call.specs.Words.{clock_named, given_once}
use Rattle.cal_call_live.specs.Words.{IsRoom, live_of, room_in, with_clock, with_room, with_word}
use Rattle.cal_call_live.specs.declared.words.LiveCommand.{LiveCommand}
use Rattle.cal_call_live.specs.declared.words.LiveOptions.{LiveOptions}

-- the room of options is, where they name one
abbrev HasRoom : LiveOptions → Type 0
HasRoom options = IfSome options.room IsRoom

-- and that of a command
abbrev pub AsksRoom : Result LiveCommand ℕ → Type 0
AsksRoom asked = IfOk asked (λ (command : LiveCommand). IsRoom command.room)

ranged : (n : ℕ) (low high : Bool) → nat_le 1 n ≡ low → nat_le n 1024 ≡ high
    → IfSome (if low && high then Some n else None) IsRoom
ranged n true true least most = (leb-true 1 n least, leb-true n 1024 most)
ranged n true false least most = tt
ranged n false high least most = tt

found_ranged : (found : Option ℕ) → IfSome (in_range 1 1024 found) IsRoom
found_ranged None = tt
found_ranged (Some n) = ranged n (nat_le 1 n) (nat_le n 1024) refl refl

short_ranged : (short : Bool) (found : Option ℕ)
    → IfSome (if short then in_range 1 1024 found else None) IsRoom
short_ranged true found = found_ranged found
short_ranged false found = tt

room_once : (options : LiveOptions) (before found : Option ℕ) → IfSome found IsRoom
    → IfSome (with_room options (number_once before found)) HasRoom
room_once options None None is = tt
room_once options None (Some n) is = is
room_once options (Some m) None is = tt
room_once options (Some m) (Some n) is = tt

text_named : (options : LiveOptions) (text : List ℕ)
    → IfSome (with_room options (number_once options.room (room_in text))) HasRoom
text_named options text = room_once options options.room (room_in text)
    (short_ranged (nat_le (length text) 4) (uint_of text))

clock_once : (options : LiveOptions) (found : Option (Option Bool)) → HasRoom options
    → IfSome (with_clock options found) HasRoom
clock_once options None has = tt
clock_once options (Some real) has = has

either : {X : Type 0} (with : X → Option LiveOptions) (found : Option X)
    (other : Option LiveOptions) → ((x : X) → IfSome (with x) HasRoom) → IfSome other HasRoom
    → IfSome (option_map_or with found other) HasRoom
either with None other has rest = rest
either with (Some x) other has rest = has x

word_has : (options : LiveOptions) (word : List ℕ) → HasRoom options
    → IfSome (with_word options word) HasRoom
word_has options word has =
    either (λ (real : Bool). with_clock options (given_once options.real real))
    (clock_named word)
    (option_map_or (λ (text : List ℕ). with_room options (number_once options.room (room_in text)))
    (value_behind (codes "--room=") word) None)
    (λ real. clock_once options (given_once options.real real) has)
    (either (λ (text : List ℕ). with_room options (number_once options.room (room_in text)))
    (value_behind (codes "--room=") word) None (text_named options) tt)

-- where none is named there is room for 16 parts
usual : (room : Option ℕ) → IfSome room IsRoom → IsRoom (unwrap_or room 16)
usual None is = (lit≤ tt, lit≤ tt)
usual (Some n) is = is

next_asks : (rest : LiveOptions → Result LiveCommand ℕ) (place : ℕ) (found : Option LiveOptions)
    → IfSome found HasRoom → ((options : LiveOptions) → HasRoom options → AsksRoom (rest options))
    → AsksRoom (option_map_or rest found (Err place))
next_asks rest place None has go = tt
next_asks rest place (Some options) has go = go options has

-- the room that words behind these options ask for
pub live_asks : (words : List (List ℕ)) (place : ℕ) (options : LiveOptions) → HasRoom options
    → AsksRoom (live_of place options words)
live_asks [] place options has = usual options.room has
live_asks (word ∷ words) place options has =
    next_asks (λ next. live_of (place + 1) next words) place (with_word options word)
    (word_has options word has) (λ next fine. live_asks words (place + 1) next fine)
