-- Sessions as plain data. No clause cites this module.
use Rattle.std.specs.Prelude.{ℕ, List, Option, refl}
use Rattle.std.specs.Coded.{Coded, code_by, coded×, coded_ℕ, coded_list, coded_option}
use Rattle.session_table.specs.declared.member.Member.{Member}
use Rattle.session_table.specs.Seats.{Seat, Seats}

abbrev pub member_code : Coded Member
member_code = code_by (ℕ × Option ℕ) (coded× coded_ℕ (coded_option coded_ℕ)) (λ m. (m.tracker, m.failed)) (λ p. record { tracker = p.0; failed = p.1 }) (λ _. refl)

abbrev pub seat_code : Coded Seat
seat_code =
    code_by (ℕ × (ℕ × List Member)) (coded× coded_ℕ (coded× coded_ℕ (coded_list member_code)))
    (λ x. (x.query, (x.quota, x.members))) (λ p. record { query = p.0; quota = p.1.0; members = p.1.1 }) (λ _. refl)

abbrev pub seats_code : Coded Seats
seats_code = coded_list (coded_option seat_code)
