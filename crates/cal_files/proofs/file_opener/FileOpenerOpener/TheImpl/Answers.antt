-- An opener over std's files tells nothing, so what is said of bytes holds anyway.
use Rattle.std.proofs.Common.{Result, Ok, Err, IfOk, OnErr, refl}
use Rattle.cal_files.proofs.file_opener.FileOpenerOpener.TheImpl.Goals as goal

if_ok : {T E : Type 0} (result : Result T E) {P : T → Type 0} → ((x : T) → P x) → IfOk result P
if_ok (Ok x) p = p x
if_ok (Err e) p = tt

on_err : {T E : Type 0} (result : Result T E) {P : Type 0} → P → OnErr result P
on_err (Ok x) p = tt
on_err (Err e) p = p

pub open-tells : goal.open-tells
open-tells g c = record {
  first = λ _. tt;
  opened = if_ok c.result (λ _. refl);
  refused = on_err c.result tt;
  openings = c.ensures.openings;
  cause = c.ensures.cause;
  reads = c.ensures.reads;
  content = refl;
}

pub read-tells : goal.read-tells
read-tells g c = record {
  bound = c.ensures.bound;
  taken = if_ok c.result (λ _. tt);
  end = if_ok c.result (λ _ _. tt);
  unchanged = on_err c.result refl;
  cause = c.ensures.cause;
  first = λ _. tt;
  opens = c.ensures.opens;
  openings = c.ensures.openings;
  content = refl;
}
