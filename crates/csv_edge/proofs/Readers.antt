-- What a read of a record does to the records that a reader still gives.
use Rattle.std.proofs.Common.{◌≡◌, ◌∙◌, Bool, true, false, ℕ, List, [], ◌∷◌, Option, Some, None, Vec, refl, inl}
use Rattle.std.specs.declared.io.Cursor.{Cursor}
use Rattle.std.specs.declared.alloc.Global.{Global}
use Rattle.csv.proofs.ReadFacts.{rows-end, rows-more}
use Rattle.csv.specs.Reading.{Reached, ReadRecord, ReadsNext, default_config, pending_of}
use Rattle.csv.specs.declared.parser.Config.{Config}
use Rattle.csv.specs.declared.parser.State.{State}
use Rattle.csv.specs.declared.reader.Reader.{Reader}
use Rattle.csv_edge.proofs.Turns.{record-none, record-then}
use Rattle.csv_edge.specs.Inside.{IsSound, piece_left, records_behind}

abbrev PieceReader : Type 0
PieceReader = Reader (Cursor (Vec ℕ Global))

still-known : (cfg : Config) (a b : State) (y : List ℕ) (k : Option (List ℕ)) (found : Bool) (f : List (List ℕ))
    → ReadsNext cfg a (Some y) k found f b → (z : List ℕ) × (k ≡ Some z)
still-known cfg a b y None found f r = absurd r
still-known cfg a b y (Some z) found f r = (z, refl)

-- after a read the reader is as before
pub read_sound : (a b : PieceReader) (found : Bool) (f : List (List ℕ)) → IsSound a → b.first ≡ true → ReadRecord piece_left a b found f → IsSound b
read_sound a b found f h first r =
    let k = still-known a.config a.state b.state h.left (pending_of (piece_left b.rdr) b) found f (rw h.source at r.0) in record {
      plain = r.3 ∙ h.plain;
      ready = inl first;
      default = r.2 ∙ h.default;
      left = k.0;
      source = rw r.1 k.1;
    }

-- the record that was found was the next one
pub read_more : (a b : PieceReader) (f : List (List ℕ)) → IsSound a → ReadRecord piece_left a b true f → records_behind a ≡ f ∷ records_behind b
unfolding Reached
read_more a b f h r =
    let m = rows-more piece_left a b f default_config a.state h.left h.left [] h.default h.source (refl, refl) r in
    let p = m.2.0 in
    rw (h.source, record-then default_config a.state h.left p m.2.1, ← m.2.2, m.2.3.0, m.2.3.1, m.1) refl

-- where none was found there is none
pub read_end : (a b : PieceReader) (f : List (List ℕ)) → IsSound a → ReadRecord piece_left a b false f → records_behind a ≡ []
read_end a b f h r = rw h.source (record-none default_config a.state h.left (rows-end piece_left a b f default_config h.left h.default h.source r))
