-- What the words of a journal's line say.
use Rattle.std.specs.Prelude.{ℕ, Bool, true, false, List, [], ◌∷◌, Option, Some, None, codes, min}
use Rattle.std.specs.Prelude.{if◌then◌else◌}
use Rattle.std.specs.Option.{option_map}
use Rattle.std.specs.Str.{bytes_eq}
use Rattle.cal_value.specs.Numerals.{number_of}
use Rattle.cal_value.specs.Reading.{uint_of}
use Rattle.cal_script.specs.declared.journal.Reply as replies
use Rattle.cal_script.specs.declared.journal.Reply.TheVariants as reply
use Rattle.cal_script.specs.Lines.{pieces}

-- A decimal. One that is greater than its field can hold is kept as the greatest value, which a
-- later rule refuses. (Giltmoth's rule.)
abbrev pub capped : ℕ → List ℕ → Option ℕ
capped most word = option_map (λ n. min n most) (number_of 10 word)

-- a number of 32 bits, and one of 64
abbrev pub short_number : List ℕ → Option ℕ
short_number word = capped 4294967295 word

abbrev pub long_number : List ℕ → Option ℕ
long_number word = capped 18446744073709551615 word

-- `script` or `real`
abbrev pub clock_said : List (List ℕ) → Option Bool
clock_said (clock ∷ []) =
    if bytes_eq clock (codes "script") then Some false
    else (if bytes_eq clock (codes "real") then Some true else None)
clock_said _ = None

-- a reading, or `-` where none was taken
abbrev pub reading_said : List ℕ → Option (Option ℕ)
reading_said word =
    if bytes_eq word (codes "-") then Some None else option_map (λ n. Some n) (uint_of word)

-- a reply by its name, and one with a number behind a colon
abbrev pub plain_reply : List ℕ → Option replies.Reply
plain_reply name =
    if bytes_eq name (codes "done") then Some reply.Done
    else (if bytes_eq name (codes "notopen") then Some reply.NotOpen
    else (if bytes_eq name (codes "toodeep") then Some reply.TooDeep
    else (if bytes_eq name (codes "slotsfull") then Some reply.SlotsFull
    else (if bytes_eq name (codes "merged") then Some reply.Merged else None))))

abbrev pub numbered_reply : List ℕ → List ℕ → Option replies.Reply
numbered_reply name number =
    if bytes_eq name (codes "mismatch") then option_map reply.Mismatch (short_number number)
    else (if bytes_eq name (codes "busy") then option_map reply.Busy (short_number number)
    else None)

abbrev pub reply_of : List (List ℕ) → Option replies.Reply
reply_of (name ∷ []) = plain_reply name
reply_of (name ∷ number ∷ []) = numbered_reply name number
reply_of _ = None

abbrev pub reply_said : List ℕ → Option replies.Reply
reply_said word = reply_of (pieces 58 word)
