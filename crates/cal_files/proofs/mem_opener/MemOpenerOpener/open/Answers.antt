use Rattle.std.proofs.Common.{inr}
use Rattle.cal_files.proofs.Finding.{named_at, unnamed}
use Rattle.cal_files.proofs.mem_opener.MemOpenerOpener.«open».Goals as goal

-- no file has the name
pub returns-in_default-clause-only : goal.returns-in_default-clause-only
returns-in_default-clause-only c =
    let none = unnamed c.self.inside.files c.args.name.now (cc) in
    λ _. inr (rw (← c.self.view_is) none)

-- all of the name's bytes are left
pub returns-clause-opened : goal.returns-clause-opened
returns-clause-opened c =
    let n = named_at c.self.inside.files c.args.name.now c.in-Some.file (cc) in
    rw (← c.self.view_is, n.1, n.2)

pub returns-clause-unheld : goal.returns-clause-unheld
returns-clause-unheld c =
    let n = named_at c.self.inside.files c.args.name.now c.in-Some.file (cc) in
    λ none. let held = rw (← c.self.view_is) at none in cc (n.2, held)
