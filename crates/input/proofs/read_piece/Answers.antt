-- `input::read_piece` meets its contract: what the contract of `read` says of the part is said of the buffer. Assumes nothing.
use Rattle.std.proofs.Common.{◌+◌, sym, ap}
use Rattle.input.proofs.Lending.{part_asked}
use Rattle.input.proofs.read_piece.Goals as goal

pub returns : goal.returns
returns g c =
    part_asked g.R.Read.remaining c.args.piece c.args.at _ _ _ c.args.buf.now c.read.new.buf c.read.result (ap (λ k. c.args.at + k) (sym c.room_of.ensures))
    c.requires c.read.auto.buf c.read.ensures.bound c.read.ensures.bytes
