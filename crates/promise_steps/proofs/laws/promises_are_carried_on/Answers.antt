use Rattle.promise_steps.proofs.Finished.{all_on, all_refused, all_last}
use Rattle.promise_steps.proofs.laws.promises_are_carried_on.Goals as goal

pub returns-clause-next : goal.returns-clause-next
returns-clause-next c kind is_durable s after x xs us goes = all_on kind is_durable s x xs us after goes

pub returns-clause-refused : goal.returns-clause-refused
returns-clause-refused c kind is_durable s x xs us fault fails = all_refused kind s x xs fault fails is_durable us

pub returns-clause-last : goal.returns-clause-last
returns-clause-last c kind is_durable s us = all_last kind s is_durable us
