use Rattle.rely_kernel.proofs.setting.fits.Goals as goal

pub returns-then-kinds_fit : goal.returns-then-kinds_fit
returns-then-kinds_fit c =
    let sites = rw (c.as_slice.ensures, c.as_slice-2.ensures) at c.kinds_fit.ensures in
    let memories = rw (c.as_slice-then-kinds_fit.ensures, c.as_slice-then-kinds_fit-2.ensures) at c.memories_fit.ensures in
    (λ h. record { sites = sites.0 c.if-kinds_fit.true; memories = memories.0 h }, λ f. memories.1 f.memories)

pub returns-else-kinds_fit : goal.returns-else-kinds_fit
returns-else-kinds_fit c =
    let sites = rw (c.as_slice.ensures, c.as_slice-2.ensures) at c.kinds_fit.ensures in
    (λ h. absurd (cc), λ f. sites.1 f.sites)
