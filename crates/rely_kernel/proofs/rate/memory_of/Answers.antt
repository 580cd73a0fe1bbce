use Rattle.std.proofs.Common.{arith, length, get_or, refl}
use Rattle.std.proofs.lemmas.Option.{slice_get_read}
use Rattle.rely_kernel.proofs.Zips.{zip_at, zip_long}
use Rattle.rely_kernel.proofs.rate.memory_of.Goals as goal

pub bounds-as_slice-v : goal.bounds-as_slice-v
bounds-as_slice-v c =
    rw c.as_slice.ensures (omega (arith, zip_long _ c.args.k.now.vars c.args.t.now.memories c.requires.fits.memories, c.requires.in_range))

pub bounds-as_slice-memory : goal.bounds-as_slice-memory
bounds-as_slice-memory c =
    rw (c.as_slice.ensures, c.as_slice-2.ensures) (zip_at _ c.args.k.now.vars c.args.t.now.memories c.args.v 0 c.requires.fits.memories c.requires.in_range).2

pub returns : goal.returns
returns c =
    let memories = c.args.h.now.memories in
    let below = (zip_at _ c.args.k.now.vars c.args.t.now.memories c.args.v 0 c.requires.fits.memories c.requires.in_range).2 in
    slice_get_read memories (length memories) (get_or c.args.t.now.memories c.args.v 0) c.index-as_slice-memory.result refl below
    (rw (c.as_slice.ensures, c.as_slice-2.ensures) at c.index-as_slice-memory.is)
