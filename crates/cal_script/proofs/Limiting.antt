-- A line without a node leaves most of what the limits count.
use Rattle.std.proofs.Common.{◌≡◌, ℕ, ◌+◌, Bool, true, false, List, length, refl, sym, ap, arith}
use Rattle.std.specs.Prelude.{Option, Some, None, is_some, nat_le, ◌&&◌, option_to_list, max}
use Rattle.std.proofs.lemmas.Bool.{and_parts}
use Rattle.cal_script.specs.declared.script.Line.{Line}
use Rattle.cal_script.specs.declared.tally.Tally.{Tally}
use Rattle.cal_script.specs.Limits.{arena, fits, thread_count, tree_words}
use Rattle.cal_script.specs.Reader.{counts_fit}
use Rattle.cal_script.specs.State.{State, counted, with_line}

-- of four tests that hold, two are done again
two_again : (first second third last other another : Bool) → (first && second && third && last) ≡ true → (first && other && another && last) ≡ (other && another)
two_again false second third last other another are = absurd (let no : false ≡ true = are in cc)
two_again true second third false other another are = absurd (let no : false ≡ true = (and_parts (true && second && third) false are).1 in cc)
two_again true second third true true true are = refl
two_again true second third true true false are = refl
two_again true second third true false another are = refl

one_thread : (thread : Option (List Line)) → is_some thread ≡ true → length (option_to_list thread) ≡ 1
one_thread (Some lines) some = refl
one_thread None some = absurd (let no : false ≡ true = some in cc)

same_arena : (process : Bool) (tally : Tally) → arena (counted process 0 tally) ≡ arena tally
same_arena true tally = let same : tally.shared + 0 ≡ tally.shared = omega arith in ap (λ shared. shared + max tally.most tally.own) same
same_arena false tally = let same : tally.own + 0 ≡ tally.own = omega arith in ap (λ own. tally.shared + max tally.most own) same

-- Behind a line without a node, only the counts of lines may pass a limit.
pub fits_again : (line : Line) (process : Bool) (state : State) → is_some state.thread ≡ true → fits state ≡ true
    → fits (with_line line process 0 state) ≡ counts_fit (counted process 0 state.tally)
fits_again line process state some are =
    let threads : ℕ = length state.earlier + 1 in
    let room : ℕ = arena (counted process 0 state.tally) in
    let count : threads ≡ thread_count state = ap (λ n. length state.earlier + n) (sym (one_thread state.thread some)) in
    let area : room ≡ arena state.tally = same_arena process state.tally in
    let header : Bool = nat_le (length state.attributes) 1024 && nat_le (length state.channels) 16 && nat_le threads 64 in
    let tests : (header && nat_le state.tally.lines 1048576 && nat_le state.tally.process_lines 65536 && nat_le (tree_words threads room) 134217728) ≡ true = rw (count, area) are in
    two_again header _ _ _ _ _ tests
