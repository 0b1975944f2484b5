mod Unstarted
