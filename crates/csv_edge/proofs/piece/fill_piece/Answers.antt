use Rattle.std.proofs.Common.{◌≡◌, ◌-◌, length, rules}
use Rattle.std.specs.Io.KnownBytes.{prepend_known}
use Rattle.csv_edge.specs.Pieces.{piece_bytes}
use Rattle.csv_edge.proofs.Filling.{fills_cut, filling_kept}
use Rattle.csv_edge.proofs.piece.fill_piece.Goals as goal

pub returns-in-Cut-clause-fills : goal.returns-in-Cut-clause-fills
returns-in-Cut-clause-fills g c =
    let least : c.saturating_sub-least.result ≡ piece_bytes - length c.loop-intake.piece.items = search rules in
    let bytes : c.as_slice-bytes.result.now ≡ c.fetch.new.self.ahead = search rules in
    let front = rw (least, bytes, c.in-Cut.is) at c.front_of.ensures in
    let before = prepend_known c.args.intake.now.ahead (g.S.Source.remaining c.args.src.now) in
    let now = prepend_known c.loop-intake.intake.ahead (g.S.Source.remaining c.loop-intake.src) in
    let next = prepend_known c.fetch.new.self.ahead (g.S.Source.remaining c.fetch.new.src) in
    let known = filling_kept before now next c.args.piece.now.items c.loop-intake.piece.items c.loop-intake.scan c.loop-intake.invariant.0 (search rules) in
    fills_cut before (g.S.Source.remaining c.fetch.new.src) c.fetch.new.self.ahead c.args.piece.now.items c.loop-intake.piece.items c.extend_from_slice.new.self.items c.pass.new.self.ahead c.loop-intake.scan c.in-Cut.len
    known front (search rules) (search rules)
