-- How far the reading of files came, file by file.
use Rattle.std.proofs.Common.{◌≡◌, ℕ, ◌+◌, ◌<◌, ◌≤◌, List, [], ◌∷◌, ◌++◌, length, take, slice_get, map, Vec, Global, Option, None, Some, Result, Ok, Err, OnOk, is_ok, is_err, false, refl, ap, ◌∙◌, arith}
use Rattle.std.proofs.lemmas.List.Sums.{sum_by_push}
use Rattle.std.proofs.lemmas.Grind.{take_at_read}
use Rattle.std.proofs.lemmas.List.{map-append}
use Rattle.std.proofs.lemmas.Option.{get_or_from_slice_get, slice_get_within}
use lib.Seq.{take-append_seam}
use Rattle.cal_base.specs.Told.{Takes, TakesUpTo, TakesOver}
use Rattle.cal_files.specs.Counts.{openings_after}
use Rattle.cal_files.specs.Files.{AreFiles, HasBegun, HasBegunWithin, HasReached, IsBegun, IsFile, bytes_of_all}
use Rattle.cal_files.specs.FilesEnds.{StopsAt, StopsIn}
use Rattle.cal_files.specs.declared.ends.FilesEnd.{FilesEnd}
use Rattle.cal_files.specs.declared.ends.FilesEnd.TheVariants as files

-- what holds where a file was opened
pub of_opened : {T E P : Type 0} (opened : Result T E) → is_err opened ≡ false → OnOk opened P → P
of_opened (Ok x) well p = p
of_opened (Err e) well p = absurd (cc)

pub opened_once : {T E : Type 0} (opened : Result T E) (before now : ℕ) → is_err opened ≡ false
    → now ≡ openings_after (is_ok opened) before → now ≡ before + 1
opened_once (Ok x) before now well counted = counted
opened_once (Err e) before now well counted = absurd (cc)

-- what was taken of a file is its beginning
IsBegun-taken : (old new : Option (List ℕ)) (part : List ℕ) → Takes old new part → IsBegun old part
IsBegun-taken None new part taken = tt
IsBegun-taken (Some old) None part taken = absurd taken
IsBegun-taken (Some old) (Some new) part taken =
    ap (take (length part)) taken ∙ take-append_seam part new

IsBegun-nil : (told : Option (List ℕ)) → IsBegun told []
IsBegun-nil None = tt
IsBegun-nil (Some bytes) = refl

pub HasBegunWithin-taken : (told old new : Option (List ℕ)) (limit : ℕ) → old ≡ told
    → TakesUpTo limit old new → HasBegunWithin told limit
HasBegunWithin-taken told old new limit same taken =
    (taken.0, rw (← same) (IsBegun-taken old new taken.0 taken.2), taken.1)

pub HasBegun-taken : (told old new : Option (List ℕ)) (limit : ℕ) → old ≡ told
    → TakesOver limit old new → HasBegun told (limit + 1)
HasBegun-taken told old new limit same taken =
    (taken.0, rw (← same) (IsBegun-taken old new taken.0 taken.2), taken.1)

-- one file more
AreFiles-more : (content : List ℕ → Option (List ℕ)) (names files : List (List ℕ))
    (name file : List ℕ) → AreFiles content names files → IsFile (content name) file
    → AreFiles content (names ++ name ∷ []) (files ++ file ∷ [])
AreFiles-more content [] [] name file are is = (is, tt)
AreFiles-more content [] (f ∷ files) name file are is = absurd are
AreFiles-more content (n ∷ names) [] name file are is = absurd are
AreFiles-more content (n ∷ names) (f ∷ files) name file are is =
    (are.0, AreFiles-more content names files name file are.1 is)

take_next : (names : List (List ℕ)) (place : ℕ) (name : List ℕ) → slice_get names place ≡ Some name
    → take (place + 1) names ≡ take place names ++ name ∷ []
take_next names place name named =
    (take_at_read names place name (slice_get_within names place name named)).1
    ∙ ap (λ last. take place names ++ last ∷ []) (get_or_from_slice_get names place name name named)

pub AreFiles-push : (content : List ℕ → Option (List ℕ)) (names files : List (List ℕ)) (place : ℕ)
    (name file : List ℕ) → AreFiles content (take place names) files
    → slice_get names place ≡ Some name → IsFile (content name) file
    → AreFiles content (take (place + 1) names) (files ++ file ∷ [])
AreFiles-push content names files place name file are named is =
    rw (take_next names place name named)
    (AreFiles-more content (take place names) files name file are is)

-- one file more, as the code keeps them
pub AreFiles-read : (content : List ℕ → Option (List ℕ)) (names : List (List ℕ))
    (read now : List (Vec ℕ Global)) (place : ℕ) (name : List ℕ) (file : Vec ℕ Global)
    → now ≡ read ++ file ∷ []
    → AreFiles content (take place names) (map (λ f. f.items) read)
    → slice_get names place ≡ Some name → IsFile (content name) file.items
    → AreFiles content (take (place + 1) names) (map (λ f. f.items) now)
AreFiles-read content names read now place name file more are named is =
    rw (more, map-append)
    (AreFiles-push content names (map (λ f. f.items) read) place name file.items are named is)

pub bytes_of_all-read : (read now : List (Vec ℕ Global)) (file : Vec ℕ Global)
    → now ≡ read ++ file ∷ []
    → bytes_of_all (map (λ f. f.items) now)
    ≡ bytes_of_all (map (λ f. f.items) read) + length file.items
bytes_of_all-read read now file more =
    rw (more, map-append) (sum_by_push length (map (λ f. f.items) read) file.items)

-- files read before, and why the next one wasn't read whole
pub StopsIn-then : (end : FilesEnd) (content : List ℕ → Option (List ℕ))
    (names files : List (List ℕ)) (name : List ℕ) (place limit allowed o p q f g h r s t : ℕ)
    → AreFiles content (take place names) files → allowed + bytes_of_all files ≡ limit
    → slice_get names place ≡ Some name → place < length names → p ≡ o + place → f ≤ g → r ≤ s
    → StopsIn end place allowed (record {
      content = content;
      openings_before = p;
      openings_now = q;
      open_faults_before = g;
      open_faults_now = h;
      read_faults_before = s;
      read_faults_now = t;
    }) name
    → StopsAt end limit (record {
      content = content;
      openings_before = o;
      openings_now = q;
      open_faults_before = f;
      open_faults_now = h;
      read_faults_before = r;
      read_faults_now = t;
    }) names
StopsIn-then (files.OpenFault file) content names fs name place limit allowed o p q f g h r s t
    are left named within opened opens reads stops =
    let reached : HasReached content names file (bytes_of_all fs) = record {
      files = fs;
      whole = rw stops.0 are;
      name = name;
      named = rw stops.0 named;
      part = [];
      begun = IsBegun-nil (content name);
      counted = omega arith;
    } in
    let rose = stops.1 in let same = stops.2 in let at = stops.0 in
    (omega arith, omega arith, (bytes_of_all fs, omega arith, reached))
StopsIn-then (files.ReadFault file) content names fs name place limit allowed o p q f g h r s t
    are left named within opened opens reads stops =
    let part = stops.3 in
    let short : length part.0 ≤ allowed = part.2 in
    let count = bytes_of_all fs + length part.0 in
    let reached : HasReached content names file count = record {
      files = fs;
      whole = rw stops.0 are;
      name = name;
      named = rw stops.0 named;
      part = part.0;
      begun = part.1;
      counted = refl;
    } in
    let rose = stops.1 in let same = stops.2 in let at = stops.0 in
    (omega arith, omega arith, (count, omega arith, reached))
StopsIn-then (files.TooLong file) content names fs name place limit allowed o p q f g h r s t
    are left named within opened opens reads stops =
    let part = stops.2 in
    let long : length part.0 ≡ allowed + 1 = part.2 in
    let reached : HasReached content names file (limit + 1) = record {
      files = fs;
      whole = rw stops.0 are;
      name = name;
      named = rw stops.0 named;
      part = part.0;
      begun = part.1;
      counted = omega arith;
    } in
    let same = stops.1 in let at = stops.0 in
    (omega arith, record { reached = reached; last = omega (arith, long) })
StopsIn-then files.OutOfMemory content names fs name place limit allowed o p q f g h r s t
    are left named within opened opens reads stops =
    omega arith
