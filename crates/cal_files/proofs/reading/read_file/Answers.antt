use Rattle.std.proofs.Common.{◌≡◌, ◌+◌, ◌∙◌, refl, sym}
use Rattle.cal_base.proofs.Taking.{ReadsAll-left}
use Rattle.cal_files.proofs.Reached.{HasBegun-taken, HasBegunWithin-taken, of_opened, opened_once}
use Rattle.cal_files.proofs.reading.read_file.Goals as goal

-- all bytes of the name were left, and they were read
pub returns-in-Ok-clause-whole : goal.returns-in-Ok-clause-whole
returns-in-Ok-clause-whole g c =
    let opened = of_opened c.open.result (cc) c.open.ensures.opened in
    rw (← opened) (ReadsAll-left _ _ _ c.in-Ok.ensures.all)

-- the beginning of the name's bytes was read
pub returns-in-Err-ReadFault-clause-refused : goal.returns-in-Err-ReadFault-clause-refused
returns-in-Err-ReadFault-clause-refused g c =
    let opened = of_opened c.open.result (cc) c.open.ensures.opened in
    let once = opened_once c.open.result _ _ (cc) c.open.ensures.openings in
    let stops = rw c.in-Err-ReadFault.field-0-is at c.in-Err-ReadFault.ensures.refused in
    let rose = rw c.open.ensures.reads at stops.0 in
    (refl, rose, c.take_rest.ensures.openings ∙ once, HasBegunWithin-taken _ _ _ _ opened stops.1)

pub returns-in-Err-TooLong-clause-refused : goal.returns-in-Err-TooLong-clause-refused
returns-in-Err-TooLong-clause-refused g c =
    let opened = of_opened c.open.result (cc) c.open.ensures.opened in
    let once = opened_once c.open.result _ _ (cc) c.open.ensures.openings in
    let stops = rw c.in-Err-TooLong.field-0-is at c.in-Err-TooLong.ensures.refused in
    (refl, c.take_rest.ensures.openings ∙ once, HasBegun-taken _ _ _ _ opened stops)
