use Rattle.std.proofs.Common.{◌≡◌, ◌-◌, Some, None, drop, length, min, rules, subst, ℕ, List}
use Rattle.std.proofs.lemmas.List.{take_rest}
use Rattle.memchr.specs.Find.{IsFirstByte, is_byte}
use Rattle.csv_edge.proofs.Fronts.{plain_all, plain_cut}
use Rattle.csv_edge.proofs.scan.front_of_plain.Goals as goal

pub returns-in-Some : goal.returns-in-Some
returns-in-Some c =
    let from : c.min-from.result ≡ min (c.args.least - 1) (length c.args.bytes.now) = search rules in
    let found : IsFirstByte (is_byte 10) (drop c.min-from.result c.args.bytes.now) (Some c.in-Some.at) =
    subst (λ (xs : List ℕ). IsFirstByte (is_byte 10) xs (Some c.in-Some.at)) (take_rest c.args.bytes.now c.min-from.result) c.in-Some.ensures in
    plain_cut c.args.start c.args.least c.min-from.result c.in-Some.at c.args.bytes.now c.requires.outside c.requires.plain from found

pub returns-in-None : goal.returns-in-None
returns-in-None c = λ more.
    let from : c.min-from.result ≡ min (c.args.least - 1) (length c.args.bytes.now) = search rules in
    let none : IsFirstByte (is_byte 10) (drop c.min-from.result c.args.bytes.now) None =
    subst (λ (xs : List ℕ). IsFirstByte (is_byte 10) xs None) (take_rest c.args.bytes.now c.min-from.result) c.in-None.ensures in
    let all = plain_all c.args.start c.args.least c.min-from.result c.args.bytes.now c.requires.outside c.requires.plain from none more in
    rw c.scan_behind.ensures all
