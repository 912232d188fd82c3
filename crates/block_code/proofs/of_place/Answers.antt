-- `block_code::of_place` meets its contract, for each kind of place. Assumes nothing.
use Rattle.std.proofs.Common.{◌≡◌, ℕ, ◌+◌, ◌-◌, ◌*◌, ◌/◌, ◌%◌, ◌^◌, ◌<◌, sym, ap, ◌∙◌, arith, rules}
use mathlib.Core.Path.{ap₂}
use lib.Bits.{bit_xor}
use Rattle.words.proofs.Ones.{one_up}
use Rattle.block_code.specs.Checks.{no_checks, of_place}
use Rattle.block_code.specs.declared.Checks.{Checks}
use Rattle.block_code.proofs.Places.{place-data, place-row, place-column, place_diagonal, place_beyond}
use Rattle.block_code.proofs.of_place.Goals as goal

pub returns-in-0-to-511 : goal.returns-in-0-to-511
returns-in-0-to-511 c =
    let p : ℕ = c.args.place in
    let row : p / 16 < 32 = omega arith in
    let bit : p % 16 < 16 = omega arith in
    let r = one_up 32 (p / 16) row in
    let b = one_up 16 (p % 16) bit in
    let d = ap (λ (x : ℕ). bit_xor x (2 ^ 47)) (one_up 64 (p / 16 + p % 16) (omega arith)) in
    let e : 16 * (p / 16) + p % 16 ≡ p = omega arith in
    record {
      answer = (λ i. record { rows = r i; columns = b i; diagonals = d i }) ∙ sym (place-data (p / 16) (p % 16) row bit) ∙ ap of_place e;
    }

pub returns-in-512-to-543 : goal.returns-in-512-to-543
returns-in-512-to-543 c =
    let p : ℕ = c.args.place in
    let inside : p - 512 < 32 = omega arith in
    let e : 512 + (p - 512) ≡ p = omega arith in
    let none : c.default.result ≡ no_checks = search rules in
    record {
      answer =
          ap₂ (λ (x : ℕ) (k : Checks). record k { rows = x }) (one_up 32 (p - 512) inside) none ∙ sym (place-row (p - 512) inside)
          ∙ ap of_place e;
    }

pub returns-in-544-to-559 : goal.returns-in-544-to-559
returns-in-544-to-559 c =
    let p : ℕ = c.args.place in
    let inside : p - 544 < 16 = omega arith in
    let e : 544 + (p - 544) ≡ p = omega arith in
    let none : c.default-in-544-to-559.result ≡ no_checks = search rules in
    record {
      answer =
          ap₂ (λ (x : ℕ) (k : Checks). record k { columns = x }) (one_up 16 (p - 544) inside) none
          ∙ sym (place-column (p - 544) inside) ∙ ap of_place e;
    }

pub returns-in-560-to-607 : goal.returns-in-560-to-607
returns-in-560-to-607 c =
    let p : ℕ = c.args.place in
    let inside : p - 560 < 48 = omega arith in
    let e : 560 + (p - 560) ≡ p = omega arith in
    let none : c.default-in-560-to-607.result ≡ no_checks = search rules in
    record {
      answer =
          ap₂ (λ (x : ℕ) (k : Checks). record k { diagonals = x }) (one_up 64 (p - 560) (omega arith)) none
          ∙ sym (place_diagonal (p - 560) inside) ∙ ap of_place e;
    }

pub returns-in_default : goal.returns-in_default
returns-in_default c =
    let p : ℕ = c.args.place in
    let e : 608 + (p - 608) ≡ p = omega arith in
    let none : c.default-in_default.result ≡ no_checks = search rules in
    record { answer = none ∙ sym (place_beyond (p - 608)) ∙ ap of_place e }
