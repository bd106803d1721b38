use Rattle.std.proofs.Common.{◌≡◌, ◌+◌, ◌-◌, ◌*◌, refl, ap, ◌∙◌, arith, rules}
use Rattle.std.proofs.lemmas.Bool.Decides.{nat_tests}
use Rattle.std.proofs.lemmas.Int.{to_z-of_z}
use borrow.Rule.Slice.PartMut.{put_mid}
use Rattle.strip.specs.Bytes.{bytes_of, strip_cells, set4}
use Rattle.strip.proofs.Strips.{within, strip_length, set4_mid, strip_set, leftover_set, with_cell_lem}
use Rattle.strip.proofs.StripStore.put.Goals as goal

pub returns : goal.returns
returns c =
    let bs = c.args.self.now.bytes.now in
    let n = c.args.n in
    let v = c.args.v in
    let fits = c.ranges.v in
    let l = strip_length bs in
    let four : 4 * n + 4 - 4 * n ≡ 4 = omega arith in
    let ws : c.copy_from_slice.new.self ≡ bytes_of v = search (rules, to_z-of_z) in
    let w : put_mid (4 * n) (4 * n + 4 - 4 * n) bs c.copy_from_slice.new.self ≡ set4 bs (4 * n) (bytes_of v) = rw (four, ws) (set4_mid bs (4 * n) _ _ _ _ (omega (arith, within bs n (omega arith)))) in
    record {
      value = grind (arith, nat_tests);
      after = ap strip_cells w ∙ strip_set bs n v fits (omega arith);
      rest = (refl, rw w (leftover_set bs n (bytes_of v) (omega arith)));
      bytes = w ∙ with_cell_lem bs n v (omega arith);
    }
