-- The calls on an account, as steps from one balance to the next.
use Rattle.std.specs.Prelude.{◌≡◌, ◌+◌, ◌<◌, ℕ}
use Rattle.example_account.specs.declared.account.AccountCommand.{AccountCommand}
use Rattle.example_account.specs.declared.account.AccountCommand.TheVariants.{Deposit, Withdraw}
use Rattle.example_account.specs.declared.account.AccountReply.{AccountReply}
use Rattle.example_account.specs.declared.account.AccountReply.TheVariants.{Balance, Refused}

-- The command, with this reply, changes the balance `old` to the balance `new`.
abbrev pub AccountStep : ℕ → AccountCommand → AccountReply → ℕ → Type 0
AccountStep old (Deposit amount) (Balance now) new = (new ≡ old + amount) × (now ≡ new)
AccountStep old (Withdraw amount) (Balance now) new = (old ≡ new + amount) × (now ≡ new)
AccountStep old (Deposit amount) Refused new = (new ≡ old) × (18446744073709551615 < old + amount)
AccountStep old (Withdraw amount) Refused new = (new ≡ old) × (old < amount)
