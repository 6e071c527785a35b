use Rattle.std.proofs.Common.{ℕ, ◌+◌, List, ◌++◌, ◌∙◌, ap, append_assoc, codes, decimal}
use Rattle.cal_call_files.proofs.report.add_message.Goals as goal

pub returns-in-Usage-clause-told : goal.returns-in-Usage-clause-told
returns-in-Usage-clause-told c =
    let line = c.args.line.now.bytes in
    let number = decimal (c.from.result + 1) in
    rw c.in-Usage.is
    (c.add_number.ensures.digits
    ∙ (ap (λ (front : List ℕ). front ++ number) c.add.ensures
    ∙ (append_assoc line (codes "usage: word ") number
    ∙ ap (λ (n : ℕ). line ++ (codes "usage: word " ++ decimal (n + 1))) c.from.ensures)))

pub returns-in-BadQuery-clause-told : goal.returns-in-BadQuery-clause-told
returns-in-BadQuery-clause-told c =
    let line = c.args.line.now.bytes in
    let front = codes "query: byte " in
    let number = decimal c.in-BadQuery.place in
    let colon = codes ": " in
    let name = c.name-in-BadQuery.result.now in
    let said = c.add_number-in-BadQuery.ensures.digits
    ∙ (ap (λ (x : List ℕ). x ++ number) c.add-in-BadQuery.ensures ∙ append_assoc line front number) in
    let closed = c.add-in-BadQuery-2.ensures
    ∙ (ap (λ (x : List ℕ). x ++ colon) said ∙ append_assoc line (front ++ number) colon) in
    rw c.in-BadQuery.is
    (c.add-in-BadQuery-3.ensures
    ∙ (ap (λ (x : List ℕ). x ++ name) closed
    ∙ (append_assoc line (front ++ number ++ colon) name
    ∙ ap (λ (n : List ℕ). line ++ (front ++ number ++ colon ++ n)) c.name-in-BadQuery.ensures)))
