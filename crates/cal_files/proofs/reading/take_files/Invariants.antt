use Rattle.std.proofs.Common.{◌≡◌, ◌+◌, ◌<◌, ◌≤◌, length, map, take}
use Rattle.cal_files.specs.Files.{AreFiles, bytes_of_all}
use Rattle.cal_files.proofs.reading.take_files.Given as goal

-- the files of the names so far, and how many bytes may still come
abbrev pub invariant-loop-place : goal.invariant-loop-place
invariant-loop-place g l =
    let o = g.O.Opener in
    let read = map (λ file. file.items) l.files.items in
    record {
      each : AreFiles (o.content l.fn.opener) (take l.place l.names) read;
      left : l.allowed + bytes_of_all read ≡ l.limit;
      openings : o.openings l.opener ≡ o.openings l.fn.opener + l.place;
      content : o.content l.opener ≡ o.content l.fn.opener;
      opens : o.open_faults l.fn.opener ≤ o.open_faults l.opener;
      reads : o.read_faults l.fn.opener ≤ o.read_faults l.opener;
      room : 0 < length l.buffer;
    }
