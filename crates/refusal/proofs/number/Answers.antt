-- `refusal::number` meets its contract: each arm is told which refusal it is. (Up to 16 arms the search finds this by itself.)

use Rattle.refusal.proofs.number.Goals as goal

pub returns-in-Text : goal.returns-in-Text
returns-in-Text c = rw c.in-Text.is

pub returns-in-Bounds : goal.returns-in-Bounds
returns-in-Bounds c = rw c.in-Bounds.is

pub returns-in-Server : goal.returns-in-Server
returns-in-Server c = rw c.in-Server.is

pub returns-in-Wanted : goal.returns-in-Wanted
returns-in-Wanted c = rw c.in-Wanted.is

pub returns-in-KeyLength : goal.returns-in-KeyLength
returns-in-KeyLength c = rw c.in-KeyLength.is

pub returns-in-KeyEntry : goal.returns-in-KeyEntry
returns-in-KeyEntry c = rw c.in-KeyEntry.is

pub returns-in-Query : goal.returns-in-Query
returns-in-Query c = rw c.in-Query.is

pub returns-in-StoreLength : goal.returns-in-StoreLength
returns-in-StoreLength c = rw c.in-StoreLength.is

pub returns-in-Room : goal.returns-in-Room
returns-in-Room c = rw c.in-Room.is

pub returns-in-AnswerLength : goal.returns-in-AnswerLength
returns-in-AnswerLength c = rw c.in-AnswerLength.is

pub returns-in-History : goal.returns-in-History
returns-in-History c = rw c.in-History.is

pub returns-in-Missing : goal.returns-in-Missing
returns-in-Missing c = rw c.in-Missing.is

pub returns-in-UnrealDay : goal.returns-in-UnrealDay
returns-in-UnrealDay c = rw c.in-UnrealDay.is

pub returns-in-OutOfSeason : goal.returns-in-OutOfSeason
returns-in-OutOfSeason c = rw c.in-OutOfSeason.is

pub returns-in-OddSymbol : goal.returns-in-OddSymbol
returns-in-OddSymbol c = rw c.in-OddSymbol.is

pub returns-in-MeterFull : goal.returns-in-MeterFull
returns-in-MeterFull c = rw c.in-MeterFull.is

pub returns-in-OneMessage : goal.returns-in-OneMessage
returns-in-OneMessage c = rw c.in-OneMessage.is

pub returns-in-Register : goal.returns-in-Register
returns-in-Register c = rw c.in-Register.is

pub returns-in-EditPlace : goal.returns-in-EditPlace
returns-in-EditPlace c = rw c.in-EditPlace.is
