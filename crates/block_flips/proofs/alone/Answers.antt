-- `block_flips::alone` meets its contract: a check, without rows or without columns, or the data place at both. Assumes nothing.
use Rattle.std.proofs.Common.{sym}
use mathlib.Core.Path.{subst}
use Rattle.block_code.specs.declared.Checks.{Checks}
use Rattle.block_flips.proofs.Naming.{Only, some, only_data}
use Rattle.block_flips.proofs.Search.{same_number, not_alone}
use Rattle.block_flips.proofs.alone.Goals as goal

pub returns-else-explains : goal.returns-else-explains
returns-else-explains c =
    let s : Checks = c.args.s in
    let r = some 32 s.rows c.if-r-eq32.false in
    let d = some 16 s.columns c.if-c-eq16.false in
    not_alone s c.in_ok-p.p.index
    (subst (Only s) (same_number (sym (c.in_ok-p.ensures r d))) (only_data s r d))
    c.if-explains.ensures
