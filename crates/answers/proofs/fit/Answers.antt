-- `fit` meets its contract: refusal 14, or the bytes are in use. Assumes nothing.
use mathlib.Core.Path.{sym, ap}
use Prim.Native.Nat.{◌+◌, ◌^◌, ◌<◌}
use native.Mathlib.Omega.{arith}
use Rattle.mdf4.specs.Answers.{exit}
use Rattle.answers.proofs.Exits.{fit_refused, fit_accepted}
use Rattle.answers.proofs.fit.Goals as goal

pub returns-then-lent-bytes : goal.returns-then-lent-bytes
returns-then-lent-bytes c = record {
  exit = λ n y p t tables f k w.
      let small : n.out + 1 < 2 ^ 64 = omega arith in
      record { is = rw k (sym (ap (exit n) (fit_refused n y p t small w (omega arith)))) };
  fits = record { is = tt };
}

pub returns : goal.returns
returns c = record {
  exit = λ n y p t tables f k w.
      let small : n.out + 1 < 2 ^ 64 = omega arith in
      record { is = fit_accepted n y p t small w (omega arith) f };
  fits = record { is = omega arith };
}
