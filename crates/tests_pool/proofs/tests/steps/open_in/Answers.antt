use Rattle.std.proofs.Common.{◌≡◌, ◌≤◌, ℕ, refl, arith}
use Rattle.pool_model.specs.Bytes.{bytes_of}
use Rattle.tests_pool.proofs.tests.steps.open_in.Goals as goal

few : (blocks : ℕ) → blocks ≤ 1024 → bytes_of 64 blocks ≤ 2147483648
unfolding bytes_of
few blocks le = omega (arith, le)

pub open-requires-clause-conf : goal.open-requires-clause-conf
open-requires-clause-conf g c =
    let some = c.if-assert.false in
    let le = c.if-assert-2.false in
    record { block_len = refl; some = omega (arith, some); blocks = omega (arith, le); memory = few c.args.blocks (omega (arith, le)); profile = c.profile_of-profile.ensures }
