use Rattle.std.proofs.Common.{◌*◌, arith}
use Rattle.std.proofs.lemmas.Bool.{lt-ltb}
use Rattle.strip.specs.Bytes.{strip_count}
use Rattle.strip.proofs.Strips.{strip_length, within, chunk_at}
use Rattle.strip.proofs.Strip.cell_bytes.Goals as goal

pub returns : goal.returns
returns c =
    let bs = c.args.self.now.bytes.now in
    let n = c.args.n in
    let l = strip_length bs in
    let e = chunk_at bs (4 * n) c.first_chunk.result (omega (arith, within bs n (omega arith))) c.first_chunk.ensures.cases in
    rw (c.copied.ensures, e, lt-ltb n (strip_count bs) (omega arith))
