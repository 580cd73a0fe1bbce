use Rattle.std.proofs.Common.{arith}
use Rattle.std.proofs.lemmas.Option.{get_or_from_slice_get, slice_get-get_or}
use Rattle.rely_kernel.proofs.Zips.{zip_at, zip_long}
use Rattle.rely_kernel.proofs.rate.rate_of_site.Goals as goal

pub bounds-as_slice-i-2 : goal.bounds-as_slice-i-2
bounds-as_slice-i-2 c =
    rw c.as_slice-2.ensures (omega (arith, zip_long _ c.args.k.now.sites c.args.t.now.sites c.requires.fits.sites, c.requires.in_range))

pub rate_of_kind-requires : goal.rate_of_kind-requires
rate_of_kind-requires c =
    let at = zip_at _ c.args.k.now.sites c.args.t.now.sites c.args.site 0 c.requires.fits.sites c.requires.in_range in
    rw (c.as_slice.ensures, c.as_slice-2.ensures, get_or_from_slice_get c.args.k.now.sites c.args.site at.0 _ at.1) at.2

pub returns : goal.returns
returns c =
    let site = slice_get-get_or c.args.k.now.sites c.args.site _ c.requires.in_range in
    rw site (rw (c.as_slice.ensures, c.as_slice-2.ensures) at c.rate_of_kind.ensures)
