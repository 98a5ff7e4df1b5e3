use Rattle.dependence_blocks.proofs.Joined.{pieces_joined}
use Rattle.dependence_blocks.proofs.printing.head.Goals as goal

pub returns : goal.returns
returns c =
    rw (
      c.in_ok-push_bytes-2.ensures.ok,
      c.in_ok-push.ensures.ok,
      c.in_ok-push_spaced-7.ensures,
      c.in_ok-push_spaced-6.ensures,
      c.in_ok-push_spaced-5.ensures,
      c.in_ok-push_spaced-4.ensures,
      c.in_ok-push_spaced-3.ensures,
      c.in_ok-push_spaced-2.ensures,
      c.in_ok-push_spaced.ensures,
      c.in_ok-push_bytes.ensures.ok,
      c.new-line.ensures,
      c.kind_word.ensures,
    ) (pieces_joined _ _ _ _ _ _ _ _ _)
