-- `feed::body::fill` meets its contract: a bad record, or what 7 to 11 say.
use Prim.Native.Nat.{ℕ, ◌<◌}
use native.Mathlib.Omega.{arith}
use Rattle.std.proofs.lemmas.Result.{err_from_is_err_and}
use Rattle.laws.specs.Fields.{byte}
use Rattle.feed.proofs.Judge.{judged_bad, counts_right, judged_broken, judged_well}
use Rattle.feed.proofs.body.fill.Goals as goal

pub returns-in_err-read_whole : goal.returns-in_err-read_whole
returns-in_err-read_whole c =
    let p = err_from_is_err_and c.from_residual.result c.from_residual.ensures.1 in
    rw (p.1, p.2) (judged_bad c.in_err-read_whole.ensures)

pub whole_fault-requires : goal.whole_fault-requires
whole_fault-requires c =
    let bytes : (i : ℕ) → byte c.args.f.now i < 256 = λ i. omega (arith, c.type_inv.f i) in
    counts_right c.requires bytes c.in_ok-read_whole.ensures c.heads_of-heads.ensures c.seen.ensures

pub returns-in_err-whole_fault : goal.returns-in_err-whole_fault
returns-in_err-whole_fault c =
    let bytes : (i : ℕ) → byte c.args.f.now i < 256 = λ i. omega (arith, c.type_inv.f i) in
    let r = c.from_residual-in_err-whole_fault in
    let p = err_from_is_err_and r.result r.ensures.1 in
    rw (p.1, p.2)
    (judged_broken c.requires bytes c.in_ok-read_whole.ensures c.heads_of-heads.ensures c.seen.ensures
    c.in_err-whole_fault.ensures)

pub returns : goal.returns
returns c =
    let bytes : (i : ℕ) → byte c.args.f.now i < 256 = λ i. omega (arith, c.type_inv.f i) in
    judged_well c.requires bytes c.in_ok-read_whole.ensures c.heads_of-heads.ensures c.seen.ensures
    c.in_ok-whole_fault.ensures
