use Rattle.std.proofs.Common.{rules, refl}
use Rattle.seen_board.proofs.Puts.{put_sees}
use Rattle.explorers.proofs.Successors.{puts_in}
use Rattle.explorers.proofs.Counting.{put_keeps}
use Rattle.explorers.proofs.Meeting.{met_on, free_after}
use Rattle.explorers.proofs.exploration.Exploration.put_in.Goals as goal

pub returns-then-has-clause-keeps : goal.returns-then-has-clause-keeps
returns-then-has-clause-keeps g c = record { claims = refl; share = refl }

pub returns-then-has-clause-within : goal.returns-then-has-clause-within
returns-then-has-clause-within g c = λ _. record {
  board = refl;
  limit = refl;
  places = refl;
  free = c.requires.free.free;
  claims = refl;
  place = refl;
  has = c.requires.free.recent.has c.args.word (c.has.ensures c.if-has.true);
}

pub returns-in-Over-clause-keeps : goal.returns-in-Over-clause-keeps
returns-in-Over-clause-keeps g c =
    put_keeps c.args.word c.args.mine.now.seat c.insert-put.new.seat c.insert-put.result c.insert-put.ensures.put

pub returns-in-Over-clause-free : goal.returns-in-Over-clause-free
returns-in-Over-clause-free g c = record {
  explored = c.requires.free.explored;
  of = search rules;
  free = search rules;
  own = c.requires.free.own;
  recent = met_on c.args.mine.now.recent c.args.mine.now.seat.seen c.insert-put.new.seat.seen
      (put_sees c.args.word c.args.mine.now.seat c.insert-put.new.seat c.insert-put.result c.insert-put.ensures.put)
      c.requires.free.recent;
}

pub returns-in-Ok : goal.returns-in-Ok
returns-in-Ok g c =
    let seat = c.args.mine.now.seat in
    record {
      free = free_after c.args.self.now.board.now c.args.self.now.space.now g.S.Space.is_own c.args.mine.now
          (record c.args.mine.now { seat = c.insert-put.new.seat; tasks = c.push.new.self; recent = c.keep.new.self })
          c.args.word c.insert-put.result c.requires.free c.insert-put.ensures.put c.in_default.not-Over
          c.insert-put.ensures.done c.requires.free.own c.keep.ensures;
      expanded = refl;
      keeps = put_keeps c.args.word seat c.insert-put.new.seat c.insert-put.result c.insert-put.ensures.put;
      sees = put_sees c.args.word seat c.insert-put.new.seat c.insert-put.result c.insert-put.ensures.put;
      within = λ _. puts_in c.args.word seat c.insert-put.new.seat c.insert-put.result c.insert-put.ensures.put
          c.in_default.not-Over c.insert-put.ensures.done;
      over = search rules;
    }

pub returns-in_default-put : goal.returns-in_default-put
returns-in_default-put g c =
    let seat = c.args.mine.now.seat in
    record {
      free = free_after c.args.self.now.board.now c.args.self.now.space.now g.S.Space.is_own c.args.mine.now
          (record c.args.mine.now {
            seat = c.insert-put.new.seat;
            tasks = c.args.mine.now.tasks;
            recent = c.keep.new.self;
          }) c.args.word c.insert-put.result c.requires.free c.insert-put.ensures.put
          c.in_default.not-Over c.insert-put.ensures.done c.requires.free.own c.keep.ensures;
      expanded = refl;
      keeps = put_keeps c.args.word seat c.insert-put.new.seat c.insert-put.result c.insert-put.ensures.put;
      sees = put_sees c.args.word seat c.insert-put.new.seat c.insert-put.result c.insert-put.ensures.put;
      within = λ _. puts_in c.args.word seat c.insert-put.new.seat c.insert-put.result c.insert-put.ensures.put
          c.in_default.not-Over c.insert-put.ensures.done;
      over = search rules;
    }

pub returns-in-Err : goal.returns-in-Err
returns-in-Err g c =
    let seat = c.args.mine.now.seat in
    record {
      free = free_after c.args.self.now.board.now c.args.self.now.space.now g.S.Space.is_own c.args.mine.now
          (record c.args.mine.now { seat = c.insert-put.new.seat; tasks = c.push.new.self; recent = c.keep.new.self })
          c.args.word c.insert-put.result c.requires.free c.insert-put.ensures.put c.in_default.not-Over
          c.insert-put.ensures.done c.requires.free.own c.keep.ensures;
      expanded = refl;
      keeps = put_keeps c.args.word seat c.insert-put.new.seat c.insert-put.result c.insert-put.ensures.put;
      sees = put_sees c.args.word seat c.insert-put.new.seat c.insert-put.result c.insert-put.ensures.put;
      within = search rules;
      over = search rules;
    }
