use Rattle.chisel_files.proofs.Working.{works_fetch}
use Rattle.chisel_files.proofs.fetching.fetch.Goals as goal

pub returns-clause-works : goal.returns-clause-works
returns-clause-works g c =
    rw c.bytes_of.ensures
    (works_fetch (g.F.Shelf.held c.args.shelf.now) c.args.name c.args.limit (g.F.Shelf.log c.args.shelf.now) (g.F.Shelf.log c.fetch-fetched.new.self) c.fetch-fetched.result c.fetch-fetched.ensures.fetches)
